-- A message was taken, and the drainer has kept its record.
use Rattle.ff_steps.proofs.Moving.{DrainerMoves-take}
use Rattle.ff_steps.proofs.drainer.Drainer.step_at.Goals as goal

pub returns-in-Some : goal.returns-in-Some
returns-in-Some c = DrainerMoves-take _ _ _ _ c.in-Some.m c.if-self.false c.in-Some.ensures.exact c.keep.ensures
