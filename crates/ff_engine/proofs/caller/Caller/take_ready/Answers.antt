-- One message more, or the last.
use Rattle.std.proofs.Common.{ap, ◌∙◌, Err}
use Rattle.std.proofs.lemmas.Result.{err_from_is_err_and}
use Rattle.ff_engine.specs.Seen.{caller_of}
use Rattle.ff_engine.proofs.Callings.{GoesOn-broken, Moves-trans, SameRings-trans}
use Rattle.ff_engine.proofs.caller.Caller.take_ready.Goals as goal

pub loop-taken-preserved : goal.loop-taken-preserved
loop-taken-preserved g c = record {
  put = c.in_ok-receive.ensures.put ∙ c.loop-taken.invariant.put;
  moves = Moves-trans (caller_of c.args.self.now) (caller_of c.loop-taken.self) (caller_of c.receive.new.self) _ _ _ c.loop-taken.invariant.rings.holds c.loop-taken.invariant.moves c.in_ok-receive.ensures.goes.moves;
  rings = SameRings-trans (caller_of c.args.self.now) (caller_of c.loop-taken.self) (caller_of c.receive.new.self) c.loop-taken.invariant.rings c.in_ok-receive.ensures.goes.rings;
  counts = c.in_ok-receive.ensures.goes.counts ∙ c.loop-taken.invariant.counts;
}

pub returns-in_err-receive-clause-goes : goal.returns-in_err-receive-clause-goes
returns-in_err-receive-clause-goes g c =
    let p = err_from_is_err_and c.from_residual.result c.from_residual.ensures.1 in
    rw (p.1 ∙ ap (λ halt. Err halt) p.2)
    (GoesOn-broken _ (caller_of c.args.self.now) (caller_of c.loop-taken.self) (caller_of c.receive.new.self) _ _ _ _ _ _ c.loop-taken.invariant.moves c.loop-taken.invariant.rings c.loop-taken.invariant.counts c.in_err-receive.ensures.goes)

pub returns-then-not-branch-clause-goes : goal.returns-then-not-branch-clause-goes
returns-then-not-branch-clause-goes g c = record {
  moves = Moves-trans (caller_of c.args.self.now) (caller_of c.loop-taken.self) (caller_of c.receive.new.self) _ _ _ c.loop-taken.invariant.rings.holds c.loop-taken.invariant.moves c.in_ok-receive.ensures.goes.moves;
  breaks = tt;
  rings = SameRings-trans (caller_of c.args.self.now) (caller_of c.loop-taken.self) (caller_of c.receive.new.self) c.loop-taken.invariant.rings c.in_ok-receive.ensures.goes.rings;
  counts = c.in_ok-receive.ensures.goes.counts ∙ c.loop-taken.invariant.counts;
  starves = tt;
}
