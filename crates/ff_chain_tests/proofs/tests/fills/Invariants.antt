use Rattle.std.proofs.Common.{◌≡◌}
use Rattle.ff_rec.specs.Streams.{IsOpen}
use Rattle.ff_chain_tests.proofs.tests.fills.Given as goal

abbrev pub invariant-loop-number : goal.invariant-loop-number
invariant-loop-number l = record {
  open_still : IsOpen l.out.put;
  link : l.out.chain ≡ l.initial.out.chain;
}
