-- Sums of numbers: of two lists one behind the other, and how far they go.
use Rattle.std.proofs.Common.{◌≡◌, ℕ, suc, ◌*◌, List, [], ◌∷◌, ◌++◌, length, ℤ, pos, ◌+ℤ◌, ◌≤ℤ◌, neg_ℤ, arith}
use Rattle.std.proofs.lemmas.Int.{ints}
use Rattle.std.specs.List.{All}
use Rattle.ff_rec.specs.Number.{IsNumber}
use Rattle.ff_dc.specs.Values.{total}

pub total-append : (xs ys : List ℤ) → total (xs ++ ys) ≡ total xs +ℤ total ys
total-append [] ys = omega (arith, ints)
total-append (x ∷ xs) ys = omega (arith, ints, total-append xs ys)

pub first-number : (x : ℤ) (xs : List ℤ) → All IsNumber (x ∷ xs) → IsNumber x
first-number x xs h = h 0 x (omega arith)

pub other-numbers : (x : ℤ) (xs : List ℤ) → All IsNumber (x ∷ xs) → All IsNumber xs
other-numbers x xs h = λ k d l. h (suc k) d (omega arith)

-- at most so far from 0
pub record Near (n : ℕ) (z : ℤ) : Type 0 where
  pub low : neg_ℤ (pos (n * 9223372036854775808)) ≤ℤ z
  pub high : z ≤ℤ pos (n * 9223372036854775808)

pub Near-total : (xs : List ℤ) → All IsNumber xs → Near (length xs) (total xs)
Near-total [] h = record { low = omega (arith, ints); high = omega (arith, ints) }
Near-total (x ∷ xs) h =
    let r : Near (length xs) (total xs) = Near-total xs (other-numbers x xs h) in
    let n : IsNumber x = first-number x xs h in
    record { low = omega (arith, ints, r.low, n.0); high = omega (arith, ints, r.high, n.1) }
