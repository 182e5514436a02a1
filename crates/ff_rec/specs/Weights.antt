-- Lists that hold the same elements, each as often.
use Rattle.std.specs.Prelude.{◌≡◌, ℕ, ◌+◌, List, [], ◌∷◌}

-- the sum of what `h` gives for each element
abbrev pub weigh : {A : Type 0} → (A → ℕ) → List A → ℕ
weigh h [] = 0
weigh h (x ∷ xs) = h x + weigh h xs

-- each element stands in `xs` as often as in `ys`: no weight of the elements tells the two lists apart
pub record Same {A : Type 0} (xs ys : List A) : Type 0 where
  pub by : (h : A → ℕ) → weigh h xs ≡ weigh h ys
