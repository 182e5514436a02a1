-- One turn more.
use Rattle.std.proofs.Common.{sym, ap, ◌∙◌, subst, Err}
use Rattle.std.proofs.lemmas.Result.{err_from_is_err_and}
use Rattle.ff_engine.specs.Callers.{Moves, SameRings}
use Rattle.ff_engine.specs.Seen.{caller_of}
use Rattle.ff_engine.proofs.Callings.{GoesOn-broken, Moves-fed, Moves-trans, SameRings-trans}
use Rattle.ff_engine.proofs.caller.Caller.feed_late.Goals as goal

pub returns-in_err-turn-clause-goes : goal.returns-in_err-turn-clause-goes
returns-in_err-turn-clause-goes g c =
    let p = err_from_is_err_and c.from_residual.result c.from_residual.ensures.1 in
    rw (p.1 ∙ ap (λ halt. Err halt) p.2)
    (GoesOn-broken _ (caller_of c.args.self.now) (caller_of c.loop.self) (caller_of c.turn.new.self) _ _ _ _ _ _ c.loop.invariant.moves c.loop.invariant.rings c.loop.invariant.counts c.in_err-turn.ensures.goes)

pub returns-in-None-try_feed-clause-goes : goal.returns-in-None-try_feed-clause-goes
returns-in-None-try_feed-clause-goes g c =
    let rings : SameRings (caller_of c.args.self.now) (caller_of c.turn.new.self) =
    SameRings-trans (caller_of c.args.self.now) (caller_of c.loop.self) (caller_of c.turn.new.self) c.loop.invariant.rings c.in_ok-turn.ensures.goes.rings in
    record {
      moves = Moves-trans (caller_of c.args.self.now) (caller_of c.turn.new.self) (caller_of c.try_feed.new.self) _ _ _ rings.holds
          (Moves-trans (caller_of c.args.self.now) (caller_of c.loop.self) (caller_of c.turn.new.self) _ _ _ c.loop.invariant.rings.holds c.loop.invariant.moves c.in_ok-turn.ensures.goes.moves)
          (Moves-fed (caller_of c.turn.new.self) (caller_of c.try_feed.new.self) c.loop.m _ c.in-None-try_feed.ensures);
      breaks = tt;
      rings = subst (λ s. SameRings (caller_of c.args.self.now) s) (sym c.in-None-try_feed.ensures) (record { writes = rings.writes; reads = rings.reads; holds = rings.holds });
      counts = c.in_ok-turn.ensures.goes.counts ∙ c.loop.invariant.counts;
      starves = tt;
    }

pub loop-preserved : goal.loop-preserved
loop-preserved g c =
    let same = c.in-Some-try_feed.ensures.1 in
    let moves : Moves (caller_of c.args.self.now) (caller_of c.turn.new.self) (g.O.Sink.taken c.args.sink.now) (g.O.Sink.taken c.turn.new.sink) =
    Moves-trans (caller_of c.args.self.now) (caller_of c.loop.self) (caller_of c.turn.new.self) _ _ _ c.loop.invariant.rings.holds c.loop.invariant.moves c.in_ok-turn.ensures.goes.moves in
    let rings : SameRings (caller_of c.args.self.now) (caller_of c.turn.new.self) =
    SameRings-trans (caller_of c.args.self.now) (caller_of c.loop.self) (caller_of c.turn.new.self) c.loop.invariant.rings c.in_ok-turn.ensures.goes.rings in
    record {
      put = ap (λ s. s.put) same ∙ c.in_ok-turn.ensures.put ∙ c.loop.invariant.put;
      moves = subst (λ s. Moves (caller_of c.args.self.now) s (g.O.Sink.taken c.args.sink.now) (g.O.Sink.taken c.turn.new.sink)) (sym same) moves;
      rings = subst (λ s. SameRings (caller_of c.args.self.now) s) (sym same) rings;
      counts = c.in_ok-turn.ensures.goes.counts ∙ c.loop.invariant.counts;
      message = c.in-Some-try_feed.ensures.0 ∙ c.loop.invariant.message;
    }
