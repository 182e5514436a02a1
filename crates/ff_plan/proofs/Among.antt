-- Which numbers stand in lists of edges.
use Rattle.std.proofs.Common.{◌≡◌, ◌≤◌, ◌<◌, ◌⊎◌, ℕ, zero, suc, ◌+◌, ◌*◌, List, [], ◌∷◌, ◌++◌, length, get_or, sym, inl, inr, arith}
use Rattle.ff_plan.specs.Rows.{range, stride}

-- a number that stands in a list
abbrev pub In : ℕ → List ℕ → Type 0
In x [] = ⊥
In x (y ∷ ys) = (x ≡ y) ⊎ In x ys

pub in-one : (x y : ℕ) → In x (y ∷ []) → x ≡ y
in-one x y among = elim among [
  | inl here ↦ here
  | inr none_left ↦ absurd none_left
]

pub in-append : (x : ℕ) (xs ys : List ℕ) → In x (xs ++ ys) → In x xs ⊎ In x ys
in-append x [] ys among = inr among
in-append x (z ∷ xs) ys among = elim among [
  | inl here ↦ inl (inl here)
  | inr later ↦ elim (in-append x xs ys later) [
    | inl left ↦ inl (inr left)
    | inr right ↦ inr right
  ]
]

pub in-range : (x e n : ℕ) → In x (range e n) → (e ≤ x) × (x < e + n)
in-range x e zero among = absurd among
in-range x e (suc n) among = elim among [
  | inl here ↦ (omega (arith, here), omega (arith, here))
  | inr later ↦
      let from = in-range x (suc e) n later in
      (omega (arith, from.0), omega (arith, from.1))
]

-- a number of a column is at least a row's width before the column's end
pub in-stride : (x m c n : ℕ) → In x (stride m c n) → x + m ≤ c + n * m
in-stride x m c zero among = absurd among
in-stride x m c (suc n) among = elim among [
  | inl here ↦ omega (arith, here)
  | inr later ↦
      let rest = in-stride x m (c + m) n later in
      omega (arith, rest)
]

-- what a place of a list holds
pub in-at : (x : ℕ) (xs : List ℕ) (i : ℕ) → i < length xs → get_or xs i 0 ≡ x → In x xs
in-at x [] i within is = absurd (omega arith)
in-at x (y ∷ ys) zero within is = inl (sym is)
in-at x (y ∷ ys) (suc i) within is =
    let left : i < length ys = omega arith in
    inr (in-at x ys i left is)
