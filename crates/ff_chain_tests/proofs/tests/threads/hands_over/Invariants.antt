use Rattle.std.proofs.Common.{◌≡◌}
use Rattle.ff_chain_tests.proofs.tests.threads.hands_over.Given as goal

abbrev pub invariant-loop : goal.invariant-loop
invariant-loop g l = l.out.chain ≡ l.initial.out.chain
