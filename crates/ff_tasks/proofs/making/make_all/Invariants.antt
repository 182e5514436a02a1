-- The workers so far.
use Rattle.ff_tasks.proofs.Makings.{AreMade}
use Rattle.ff_tasks.proofs.making.make_all.Given as goal

abbrev pub invariant-loop-handler : goal.invariant-loop-handler
invariant-loop-handler g l = AreMade l.seats.items l.jobs.items l.yielded
