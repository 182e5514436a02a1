use Rattle.std.proofs.Common.{◌≡◌, [], replicate}
use Rattle.ff_loop_tests.proofs.tests.players.nothing_passed.Given as goal

abbrev pub invariant-loop : goal.invariant-loop
invariant-loop l = l.all.items ≡ replicate l.counter []
