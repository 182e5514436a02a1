use Rattle.std.proofs.Common.{◌≡◌, ℕ, ◌<◌, false, slice_index_or}
use Rattle.ff_unit.proofs.flags.Flags.any.Given as goal

-- each of those before it is closed
abbrev pub invariant-loop-k : goal.invariant-loop-k
invariant-loop-k l = (j : ℕ) → j < l.k → slice_index_or l.self-inside.flags j false ≡ false
