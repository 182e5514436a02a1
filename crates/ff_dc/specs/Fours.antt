-- Four values, each from -2^90 to 2^90.
use Rattle.std.specs.Prelude.{◌≡◌, ℕ, ◌^◌, List, [], ◌∷◌, ℤ, pos, neg_ℤ, ◌≤ℤ◌, slice_index_or}
use Rattle.std.specs.Int.{int_max, int_min}

-- the end above
abbrev pub highest : ℤ
highest = pos (2 ^ 90)

-- the end below
abbrev pub lowest : ℤ
lowest = neg_ℤ (pos (2 ^ 90))

-- a number from the one end to the other
abbrev pub IsWithin : ℤ → Type 0
IsWithin z = (lowest ≤ℤ z) × (z ≤ℤ highest)

-- a number, and the end that it passes in its place
unfoldable pub clip : ℤ → ℤ
clip z = int_max lowest (int_min z highest)

-- four values, each within the ends
pub record IsFour (v : List ℤ) : Type 0 where
  pub all : v ≡ slice_index_or v 0 (pos 0) ∷ slice_index_or v 1 (pos 0) ∷ slice_index_or v 2 (pos 0) ∷ slice_index_or v 3 (pos 0) ∷ []
  pub a : IsWithin (slice_index_or v 0 (pos 0))
  pub b : IsWithin (slice_index_or v 1 (pos 0))
  pub c : IsWithin (slice_index_or v 2 (pos 0))
  pub d : IsWithin (slice_index_or v 3 (pos 0))

-- value k of four, from 0
abbrev pub at : ℕ → List ℤ → ℤ
at k v = slice_index_or v k (pos 0)

-- one value, and three that are 0
abbrev pub only : ℤ → List ℤ
only z = z ∷ pos 0 ∷ pos 0 ∷ pos 0 ∷ []
