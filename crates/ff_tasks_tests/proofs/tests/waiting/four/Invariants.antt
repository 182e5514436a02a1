use Rattle.std.proofs.Common.{◌≡◌, length}
use Rattle.ff_tasks_tests.proofs.tests.waiting.four.Given as goal

abbrev pub invariant-loop : goal.invariant-loop
invariant-loop g l = length l.handlers.items ≡ l.counter
