-- A capped count and a capped sum of a whole list.
use Rattle.std.proofs.Common.{◌≡◌, ℕ, ◌+◌, ◌-◌, ◌^◌, ◌≤◌, min, List, [], ◌∷◌, length, Option, None, Some, ℤ, pos, sym, ap, ap₂, ◌∙◌, zero-add, arith}
use Rattle.std.specs.Prelude.{◌-ℤ◌}
use Rattle.ff_rec.specs.Lines.{Rec}
use Rattle.ff_node.specs.Behaviour.{sent_from}
use Rattle.ff_ops.specs.Rows.{number_in}
use Rattle.ff_ops.specs.FoldOps.{above, below, capped_sum, fold_if_number, fold_node, one_number}
use Rattle.ff_ops.specs.FoldSums.{of_number, sum_above, sum_below, TallyIsLength, TotalIsDifference}
use Rattle.ff_ops.specs.declared.fold_op.FoldOp.TheVariants.{Tally, Total}

min-none : (c n : ℕ) → min (n + 0) c ≡ min n c
min-none c n = omega arith

-- a count from `n` on
sent_from-tally : (n : ℕ) (xs : List Rec) → n ≤ 2 ^ 64 - 1 → sent_from fold_node (Tally n) xs ≡ one_number (Some (pos (min (n + length xs) (2 ^ 64 - 1))))
sent_from-tally n [] low = ap (λ (m : ℕ). one_number (Some (pos m))) (omega arith)
sent_from-tally n (x ∷ xs) low =
    sent_from-tally (min (n + 1) (2 ^ 64 - 1)) xs (omega arith)
    ∙ ap (λ (m : ℕ). one_number (Some (pos m))) (omega arith)

pub tally_is_length : TallyIsLength
tally_is_length n xs = sent_from-tally 0 xs (omega arith) ∙ ap (λ (m : ℕ). one_number (Some (pos m))) (omega arith)

-- both sums, from two sums on
abbrev sent_total : ℕ → ℕ → List Rec
sent_total plus minus = one_number (Some (pos (min plus (2 ^ 126)) -ℤ pos (min minus (2 ^ 126))))

-- a sum that is capped once more on the way
capped-more : (n k m : ℕ) → min (capped_sum n k + m) (2 ^ 126) ≡ min (n + (k + m)) (2 ^ 126)
capped-more n k m = omega arith

sent_from-total : (f plus minus : ℕ) (xs : List Rec) → sent_from fold_node (Total f plus minus) xs ≡ sent_total (plus + sum_above f xs) (minus + sum_below f xs)
sent_from-total f plus minus [] =
    ap₂ (λ (p m : ℕ). one_number (Some (pos p -ℤ pos m))) (sym (min-none (2 ^ 126) plus)) (sym (min-none (2 ^ 126) minus))
sent_from-total f plus minus (x ∷ xs) = by (number_in f x) (λ p m. sent_from-total f p m xs)
  where
    by : (n : Option ℤ) → ((p m : ℕ) → sent_from fold_node (Total f p m) xs ≡ sent_total (p + sum_above f xs) (m + sum_below f xs))
        → sent_from fold_node (fold_if_number (Total f plus minus) n) xs
        ≡ sent_total (plus + (of_number above n + sum_above f xs)) (minus + (of_number below n + sum_below f xs))
    by None rest = rest plus minus ∙ ap₂ (λ (p m : ℕ). sent_total (plus + p) (minus + m)) (omega arith) (omega arith)
    by (Some y) rest =
        rest (capped_sum plus (above y)) (capped_sum minus (below y))
        ∙ ap₂ (λ (p m : ℕ). one_number (Some (pos p -ℤ pos m)))
        (capped-more plus (above y) (sum_above f xs)) (capped-more minus (below y) (sum_below f xs))

pub total_is_difference : TotalIsDifference
total_is_difference f plus minus xs = sent_from-total f 0 0 xs ∙ ap₂ sent_total (zero-add (sum_above f xs)) (zero-add (sum_below f xs))
