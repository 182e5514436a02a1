use Rattle.std.proofs.Common.{◌≡◌, length}
use Rattle.ff_tasks_tests.proofs.tests.echo.Echo.several.Given as goal

abbrev pub invariant-loop : goal.invariant-loop
invariant-loop l = length l.echoes.items ≡ l.counter
