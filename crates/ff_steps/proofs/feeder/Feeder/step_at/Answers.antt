-- A copy was refused memory.
use Rattle.ff_steps.proofs.Moving.{FeederMoves-refused}
use Rattle.ff_steps.proofs.feeder.Feeder.step_at.Goals as goal

pub returns-in-Err-clause-moves : goal.returns-in-Err-clause-moves
returns-in-Err-clause-moves c = FeederMoves-refused _ c.args.edge.now c.if-self.false c.in-Err.ensures.refused
