-- No task was given.
use Rattle.ff_tasks.specs.Seats.{AllOutlive}
use Rattle.ff_tasks.proofs.seats.close_each.Given as goal

abbrev pub invariant-loop-seat : goal.invariant-loop-seat
invariant-loop-seat g l = AllOutlive l.initial.seat-items l.seat-items
