-- One look more.
use Rattle.std.proofs.Common.{◌≡◌, sym, ap, ◌∙◌, subst, Err}
use Rattle.std.proofs.lemmas.Result.{err_from_is_err_and}
use Rattle.ff_engine.specs.Callers.{Moves, SameRings}
use Rattle.ff_engine.specs.Seen.{caller_of}
use Rattle.ff_engine.proofs.Callings.{GoesOn-broken, Moves-trans, SameRings-trans}
use Rattle.ff_engine.proofs.caller.Caller.show_till_still.Goals as goal

pub loop-preserved : goal.loop-preserved
loop-preserved g c =
    let still = sym c.is_still-still.ensures in
    record {
      put = c.in_ok-show_some.ensures.put ∙ ap (λ s. s.put) (sym still) ∙ c.loop.invariant.put;
      moves = Moves-trans (caller_of c.args.self.now) (caller_of c.is_still-still.new.self) (caller_of c.show_some.new.self) _ _ _
          (subst (λ s. s.holds ≡ (caller_of c.args.self.now).holds) still c.loop.invariant.rings.holds)
          (subst (λ s. Moves (caller_of c.args.self.now) s (g.O.Sink.taken c.args.sink.now) (g.O.Sink.taken c.loop.sink)) still c.loop.invariant.moves)
          c.in_ok-show_some.ensures.goes.moves;
      rings = SameRings-trans (caller_of c.args.self.now) (caller_of c.is_still-still.new.self) (caller_of c.show_some.new.self)
          (subst (λ s. SameRings (caller_of c.args.self.now) s) still c.loop.invariant.rings) c.in_ok-show_some.ensures.goes.rings;
      counts = c.in_ok-show_some.ensures.goes.counts ∙ c.loop.invariant.counts;
    }

pub returns-in_err-show_some-clause-goes : goal.returns-in_err-show_some-clause-goes
returns-in_err-show_some-clause-goes g c =
    let p = err_from_is_err_and c.from_residual.result c.from_residual.ensures.1 in
    let still = sym c.is_still-still.ensures in
    rw (p.1 ∙ ap (λ halt. Err halt) p.2)
    (GoesOn-broken _ (caller_of c.args.self.now) (caller_of c.is_still-still.new.self) (caller_of c.show_some.new.self) _ _ _ _ _ _
    (subst (λ s. Moves (caller_of c.args.self.now) s (g.O.Sink.taken c.args.sink.now) (g.O.Sink.taken c.loop.sink)) still c.loop.invariant.moves)
    (subst (λ s. SameRings (caller_of c.args.self.now) s) still c.loop.invariant.rings) c.loop.invariant.counts c.in_err-show_some.ensures.goes)

pub returns-then-branch-clause-goes : goal.returns-then-branch-clause-goes
returns-then-branch-clause-goes g c =
    let still = sym c.is_still-still.ensures in
    record {
      moves = Moves-trans (caller_of c.args.self.now) (caller_of c.is_still-still.new.self) (caller_of c.show_some.new.self) _ _ _
          (subst (λ s. s.holds ≡ (caller_of c.args.self.now).holds) still c.loop.invariant.rings.holds)
          (subst (λ s. Moves (caller_of c.args.self.now) s (g.O.Sink.taken c.args.sink.now) (g.O.Sink.taken c.loop.sink)) still c.loop.invariant.moves)
          c.in_ok-show_some.ensures.goes.moves;
      breaks = tt;
      rings = SameRings-trans (caller_of c.args.self.now) (caller_of c.is_still-still.new.self) (caller_of c.show_some.new.self)
          (subst (λ s. SameRings (caller_of c.args.self.now) s) still c.loop.invariant.rings) c.in_ok-show_some.ensures.goes.rings;
      counts = c.in_ok-show_some.ensures.goes.counts ∙ c.loop.invariant.counts;
      starves = tt;
    }
