-- What came was shown up to the end, or it broke off and the rest was dropped.
use Rattle.ff_engine.specs.Seen.{caller_of}
use Rattle.ff_engine.proofs.Callings.{GoesOn-behind, GoesOn-more}
use Rattle.ff_engine.proofs.finishing.close.Goals as goal

pub returns-in-Ok-drain-clause-goes : goal.returns-in-Ok-drain-clause-goes
returns-in-Ok-drain-clause-goes g c =
    GoesOn-behind _ (caller_of c.args.caller.now) (caller_of c.feed.new.self) (caller_of c.drain.new.self) _ _ _ _ _ _ c.in-Ok.ensures.goes.moves c.in-Ok.ensures.goes.rings c.in-Ok.ensures.goes.counts c.in-Ok-drain.ensures.goes

pub returns-in-Err-drain-clause-goes : goal.returns-in-Err-drain-clause-goes
returns-in-Err-drain-clause-goes g c =
    let behind = GoesOn-behind _ (caller_of c.args.caller.now) (caller_of c.feed.new.self) (caller_of c.drain.new.self) _ _ _ _ _ _ c.in-Ok.ensures.goes.moves c.in-Ok.ensures.goes.rings c.in-Ok.ensures.goes.counts c.in-Err-drain.ensures.goes in
    GoesOn-more _ (caller_of c.args.caller.now) (caller_of c.drain.new.self) (caller_of c.drop_rest.new.self) _ _ _ _ behind c.drop_rest.ensures.more c.drop_rest.ensures.rings

pub returns-in-Err-clause-goes : goal.returns-in-Err-clause-goes
returns-in-Err-clause-goes g c =
    GoesOn-more _ (caller_of c.args.caller.now) (caller_of c.feed.new.self) (caller_of c.stop.new.self) _ _ _ _ c.in-Err.ensures.goes c.stop.ensures.more c.stop.ensures.rings
