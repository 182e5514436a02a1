use Rattle.std.proofs.Common.{◌≡◌}
use Rattle.ff_chain_tests.proofs.tests.threads.reads.Given as goal

abbrev pub invariant-loop : goal.invariant-loop
invariant-loop g l = l.inn.chain ≡ l.initial.inn.chain
