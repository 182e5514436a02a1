use Rattle.ff_tasks_tests.specs.Broods.{IsRight}
use Rattle.ff_tasks_tests.proofs.tests.alone.Given as goal

abbrev pub invariant-loop : goal.invariant-loop
invariant-loop l = IsRight l.brood
