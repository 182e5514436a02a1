-- What came was shown, and then written.
use Rattle.ff_engine.specs.Seen.{caller_of}
use Rattle.ff_engine.proofs.Callings.{GoesOn-behind}
use Rattle.ff_engine.proofs.caller.Caller.show.Goals as goal

pub returns-clause-goes : goal.returns-clause-goes
returns-clause-goes g c =
    GoesOn-behind c.write_held.result (caller_of c.args.self.now) (caller_of c.show_till_still.new.self) (caller_of c.write_held.new.self) _ _ _ _ _ _ c.in_ok-show_till_still.ensures.goes.moves c.in_ok-show_till_still.ensures.goes.rings c.in_ok-show_till_still.ensures.goes.counts c.write_held.ensures.goes
