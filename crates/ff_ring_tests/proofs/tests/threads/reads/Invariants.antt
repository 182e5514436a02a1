use Rattle.std.proofs.Common.{◌≡◌}
use Rattle.ff_ring.specs.Ends.{read_ring}
use Rattle.ff_ring_tests.proofs.tests.threads.reads.Given as goal

abbrev pub invariant-loop : goal.invariant-loop
invariant-loop g l = read_ring l.inn ≡ read_ring l.initial.inn
