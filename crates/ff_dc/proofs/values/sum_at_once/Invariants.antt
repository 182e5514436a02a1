use Rattle.std.proofs.Common.{◌≡◌, ◌*◌, take, pos, neg_ℤ, ◌≤ℤ◌}
use Rattle.ff_dc.specs.Values.{total}
use Rattle.ff_dc.proofs.values.sum_at_once.Given as goal

abbrev pub invariant-loop-x : goal.invariant-loop-x
invariant-loop-x l =
    (l.sum ≡ total (take l.x-index l.xs))
    × (neg_ℤ (pos (l.x-index * 9223372036854775808)) ≤ℤ l.sum)
    × (l.sum ≤ℤ pos (l.x-index * 9223372036854775808))
