-- What the folds of the table send for a whole list.
use Rattle.std.specs.Prelude.{◌≡◌, ℕ, ◌-◌, ◌^◌, min, List, length, Option, None, Some, ℤ, pos, ◌-ℤ◌}
use Rattle.ff_rec.specs.Lines.{Rec}
use Rattle.ff_rec.specs.Weights.{weigh}
use Rattle.ff_node.specs.Behaviour.{node}
use Rattle.ff_ops.specs.Rows.{number_in}
use Rattle.ff_ops.specs.FoldOps.{above, below, fold_node, one_number}
use Rattle.ff_ops.specs.declared.fold_op.FoldOp.TheVariants.{Tally, Total}

-- a weight of a number, where there is one
abbrev pub of_number : (ℤ → ℕ) → Option ℤ → ℕ
of_number h None = 0
of_number h (Some x) = h x

-- the sum of the numbers above 0 in field `f`, and that of the absolute values of those below
abbrev pub sum_above : ℕ → List Rec → ℕ
sum_above f xs = weigh (λ x. of_number above (number_in f x)) xs

abbrev pub sum_below : ℕ → List Rec → ℕ
sum_below f xs = weigh (λ x. of_number below (number_in f x)) xs

-- the number of the records, as far as a count of 64 bits tells
abbrev pub count_of : List Rec → ℕ
count_of xs = min (length xs) (2 ^ 64 - 1)

-- the one sum less the other, each at most 2^126
abbrev pub total_in : ℕ → List Rec → ℤ
total_in f xs = pos (min (sum_above f xs) (2 ^ 126)) -ℤ pos (min (sum_below f xs) (2 ^ 126))

-- `tally` sends the number of the records
abbrev pub TallyIsLength : Type 0
TallyIsLength = (n : ℕ) (xs : List Rec) → node fold_node (Tally n) xs ≡ one_number (Some (pos (count_of xs)))

-- `total` sends the difference of the sums
abbrev pub TotalIsDifference : Type 0
TotalIsDifference = (f plus minus : ℕ) (xs : List Rec)
    → node fold_node (Total f plus minus) xs ≡ one_number (Some (total_in f xs))
