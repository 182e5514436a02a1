use Rattle.std.proofs.Common.{◌≡◌}
use Rattle.ff_ring.specs.Ends.{written_ring}
use Rattle.ff_ring_tests.proofs.tests.threads.hands_over.Given as goal

abbrev pub invariant-loop : goal.invariant-loop
invariant-loop g l = written_ring l.out ≡ written_ring l.initial.out
