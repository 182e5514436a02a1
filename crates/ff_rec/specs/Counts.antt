-- Counts of 64 bits, which stand still at their last value.
use Rattle.std.specs.Prelude.{ℕ, ◌+◌, ◌-◌, ◌^◌, ◌≤◌, min, List, [], ◌∷◌}

-- a number, as far as a count tells
abbrev pub counted : ℕ → ℕ
counted n = min n (2 ^ 64 - 1)

-- a count, one more
abbrev pub more : ℕ → ℕ
more n = min (n + 1) (2 ^ 64 - 1)

-- a count, one more for each of these
abbrev pub count_more : {A : Type 0} → ℕ → List A → ℕ
count_more n [] = n
count_more n (x ∷ xs) = count_more (more n) xs

-- a count rose, or stands at its last value
abbrev pub Rose : ℕ → ℕ → Type 0
Rose before now = more before ≤ now
