-- One turn more.
use Rattle.std.proofs.Common.{ap, ◌∙◌, Err}
use Rattle.std.proofs.lemmas.Result.{err_from_is_err_and}
use Rattle.ff_engine.specs.Seen.{caller_of}
use Rattle.ff_engine.proofs.Callings.{GoesOn-broken, Moves-trans, SameRings-trans}
use Rattle.ff_engine.proofs.caller.Caller.drain.Goals as goal

pub loop-preserved : goal.loop-preserved
loop-preserved g c = record {
  put = c.in_ok-turn.ensures.put ∙ c.loop.invariant.put;
  moves = Moves-trans (caller_of c.args.self.now) (caller_of c.loop.self) (caller_of c.turn.new.self) _ _ _ c.loop.invariant.rings.holds c.loop.invariant.moves c.in_ok-turn.ensures.goes.moves;
  rings = SameRings-trans (caller_of c.args.self.now) (caller_of c.loop.self) (caller_of c.turn.new.self) c.loop.invariant.rings c.in_ok-turn.ensures.goes.rings;
  counts = c.in_ok-turn.ensures.goes.counts ∙ c.loop.invariant.counts;
}

pub returns-in_err-turn-clause-goes : goal.returns-in_err-turn-clause-goes
returns-in_err-turn-clause-goes g c =
    let p = err_from_is_err_and c.from_residual.result c.from_residual.ensures.1 in
    rw (p.1 ∙ ap (λ halt. Err halt) p.2)
    (GoesOn-broken _ (caller_of c.args.self.now) (caller_of c.loop.self) (caller_of c.turn.new.self) _ _ _ _ _ _ c.loop.invariant.moves c.loop.invariant.rings c.loop.invariant.counts c.in_err-turn.ensures.goes)
