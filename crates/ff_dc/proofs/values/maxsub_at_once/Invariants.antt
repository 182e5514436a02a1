use Rattle.std.proofs.Common.{◌≡◌, ◌*◌, take, pos, neg_ℤ, ◌≤ℤ◌}
use Rattle.ff_dc.specs.Values.{total}
use Rattle.ff_dc.proofs.Runs.{P, S, M}
use Rattle.ff_dc.proofs.values.maxsub_at_once.Given as goal

abbrev pub invariant-loop-x : goal.invariant-loop-x
invariant-loop-x l = record {
  total_is : l.sum ≡ total (take l.x-index l.xs);
  prefix_is : l.prefix ≡ P (take l.x-index l.xs);
  suffix_is : l.suffix ≡ S (take l.x-index l.xs);
  run_is : l.run ≡ M (take l.x-index l.xs);
  low : neg_ℤ (pos (l.x-index * 9223372036854775808)) ≤ℤ l.sum;
  high : l.sum ≤ℤ pos (l.x-index * 9223372036854775808);
  suffix_low : pos 0 ≤ℤ l.suffix;
  suffix_high : l.suffix ≤ℤ pos (l.x-index * 9223372036854775808);
}
