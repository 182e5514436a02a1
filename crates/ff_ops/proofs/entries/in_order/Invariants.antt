use Rattle.std.proofs.Common.{◌≡◌}
use Rattle.std.specs.List.{fold}
use Rattle.ff_ops.specs.Tables.{by_key, put, read_by}
use Rattle.ff_ops.proofs.entries.in_order.Given as goal

-- what is sorted, with what is left put into it, is all in order
abbrev pub invariant-loop-key : goal.invariant-loop-key
invariant-loop-key g l = fold put (read_by (λ k. k.now) l.sorted.entries) (read_by (λ k. k.items) l.key-iterator) ≡ by_key l.values.entries
