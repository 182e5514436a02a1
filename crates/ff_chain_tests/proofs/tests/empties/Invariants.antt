use Rattle.std.proofs.Common.{◌≡◌}
use Rattle.ff_chain_tests.proofs.tests.empties.Given as goal

abbrev pub invariant-loop-number : goal.invariant-loop-number
invariant-loop-number l = record {
  writer : l.out.chain ≡ l.initial.out.chain;
  put : l.out.put ≡ l.initial.out.put;
  reader : l.inn.chain ≡ l.initial.inn.chain;
}
