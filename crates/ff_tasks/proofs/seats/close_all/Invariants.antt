-- No task was given.
use Rattle.ff_tasks.specs.Seats.{AllOutlive}
use Rattle.ff_tasks.proofs.seats.close_all.Given as goal

abbrev pub invariant-loop : goal.invariant-loop
invariant-loop g l = AllOutlive l.initial.seats.items l.seats.items
