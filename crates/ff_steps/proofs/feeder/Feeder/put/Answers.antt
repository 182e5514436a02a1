-- The next message was put, and the feeder has passed it.
use Rattle.ff_steps.proofs.Moving.{FeederMoves-put}
use Rattle.ff_steps.proofs.feeder.Feeder.put.Goals as goal

pub returns-in-Done-clause-moves : goal.returns-in-Done-clause-moves
returns-in-Done-clause-moves c = FeederMoves-put _ _ _ _ c.args.m c.requires.next c.requires.live c.in-Done.ensures.exact c.pass.ensures.passed
