-- No task was given.
use Rattle.ff_tasks.specs.Seats.{Outlives}
use Rattle.ff_tasks.proofs.seat.Seat.drop_answers.Given as goal

abbrev pub invariant-loop : goal.invariant-loop
invariant-loop g l = Outlives l.initial.self l.self
