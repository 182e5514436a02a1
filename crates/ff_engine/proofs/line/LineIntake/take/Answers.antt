-- The record was put on the first ring, or it broke off before.
use Rattle.std.proofs.Common.{[], ◌∷◌, refl}
use Rattle.ff_engine.specs.Seen.{caller_of}
use Rattle.ff_engine.proofs.LineEnds.{Halts-cut, IfErr-breaks, IsOpen-put, OnOk-moves, carried-fed}
use Rattle.ff_engine.proofs.line.LineIntake.take.Goals as goal

pub returns-then-is_cut-clause-err : goal.returns-then-is_cut-clause-err
returns-then-is_cut-clause-err g c =
    Halts-cut g.N.Node.does (λ l. caller_of l.caller) (λ l. l.crew) c.args.self.now c.args.self.now (c.args.r ∷ []) _ refl refl

pub feed-requires : goal.feed-requires
feed-requires g c = IsOpen-put (caller_of c.args.self.now.caller).put c.args.self.now.open

pub invariant_of-self : goal.invariant_of-self
invariant_of-self g c = record {
  «open» = carried-fed c.feed.result (caller_of c.args.self.now.caller).put (caller_of c.feed.new.self).put c.args.r c.args.self.now.open c.feed.ensures.put c.feed.ensures.stays;
}

pub returns-clause-ok : goal.returns-clause-ok
returns-clause-ok g c =
    OnOk-moves g.N.Node.does (λ l. caller_of l.caller) (λ l. l.crew) c.feed.result c.args.self.now _ (c.args.r ∷ []) _ _ refl
    c.feed.ensures.goes.moves c.feed.ensures.put c.feed.ensures.goes.rings

pub returns-clause-err : goal.returns-clause-err
returns-clause-err g c =
    IfErr-breaks g.N.Node.does (λ l. caller_of l.caller) (λ l. l.crew) c.feed.result c.args.self.now _ (c.args.r ∷ []) _ _ refl
    c.feed.ensures.goes.breaks c.feed.ensures.goes.starves c.feed.ensures.stays c.feed.ensures.goes.rings
