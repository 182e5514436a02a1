-- Bytes cut at their first separator.
use Rattle.std.specs.Prelude.{◌≢◌, ℕ, List, [], ◌∷◌, ◌++◌, Option, None, Some}
use Rattle.std.specs.List.{AllByRecursion}
use Rattle.std.specs.Borrow.{Bor}
use Rattle.ff_rec.specs.Lines.{cut}

-- the pieces of what stands behind a separator, if one was there
abbrev pub rest_cut : ℕ → Option (Bor (List ℕ)) → List (List ℕ)
rest_cut sep None = []
rest_cut sep (Some rest) = cut sep rest.now

-- the first piece, and the separator and the rest behind it
abbrev pub whole_of : ℕ → List ℕ → Option (Bor (List ℕ)) → List ℕ
whole_of sep front None = front
whole_of sep front (Some rest) = front ++ sep ∷ rest.now

-- no byte is the separator
abbrev pub Lacks : ℕ → List ℕ → Type 0
Lacks sep bytes = AllByRecursion (λ c. c ≢ sep) bytes
