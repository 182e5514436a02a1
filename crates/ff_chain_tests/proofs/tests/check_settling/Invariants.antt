use Rattle.std.proofs.Common.{◌≡◌}
use Rattle.ff_rec.specs.Streams.{IsOpen}
use Rattle.ff_chain_tests.proofs.tests.check_settling.Given as goal

abbrev pub invariant-loop-number : goal.invariant-loop-number
invariant-loop-number g l = record {
  open_still : IsOpen l.out.put;
  pair : l.inn.chain ≡ l.out.chain;
}
