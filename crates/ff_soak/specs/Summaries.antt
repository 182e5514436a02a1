-- What a soak tells of its answer.
use Rattle.std.specs.Prelude.{ℕ, List, length, ℤ, pos, ◌-ℤ◌}
use Rattle.ff_rec.specs.Lines.{Rec}
use Rattle.ff_ops.specs.FoldSums.{sum_above, sum_below}
use Rattle.ff_soak.specs.declared.summary.Summary.{Summary}

-- the sum of the numbers in the second fields: of those above 0, less that of the absolute values of those below
abbrev pub total_of : List Rec → ℤ
total_of xs = pos (sum_above 2 xs) -ℤ pos (sum_below 2 xs)

-- of `n` records came these
abbrev pub summary_of : ℕ → List Rec → Summary
summary_of n xs = record { records = n; keys = length xs; total = total_of xs }
