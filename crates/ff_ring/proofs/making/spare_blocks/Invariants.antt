use Rattle.std.proofs.Common.{◌≡◌, ◌+◌, [], All, length, deque_capacity}
use Rattle.rtrb.specs.Ring.{IsPair, sent, known_free, received}
use Rattle.ff_ring.proofs.making.spare_blocks.Given as goal

abbrev pub invariant-loop : goal.invariant-loop
invariant-loop g l = record {
  pair : IsPair l.giving l.spares;
  received : received l.spares ≡ [];
  count : length (sent l.giving) ≡ l.counter;
  free : known_free l.giving + l.counter ≡ l.count + 1;
  sizes : All (λ b. deque_capacity b ≡ l.size) (sent l.giving);
}
