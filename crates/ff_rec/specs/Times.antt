-- How often a record stands in a list, counted by a test.
use Rattle.std.specs.Prelude.{◌≡◌, ◌↔◌, ℕ, ◌+◌, Bool, List, [], ◌∷◌, if◌then◌else◌}
use Rattle.std.specs.Cmp.Lexicographic.{pointwise}
use Rattle.ff_rec.specs.Fields.{same_bytes}
use Rattle.ff_rec.specs.Lines.{Rec}
use Rattle.ff_rec.specs.Weights.{Same}

-- whether two records have the same fields
abbrev pub same_record : Rec → Rec → Bool
same_record u x = pointwise same_bytes u x

-- how often `u` stands in a list
abbrev pub times : Rec → List Rec → ℕ
times u [] = 0
times u (x ∷ xs) = (if same_record u x then 1 else 0) + times u xs

-- lists of records are `Same` exactly where each record stands in both as often
abbrev pub SameIsCounts : Type 0
SameIsCounts = (xs ys : List Rec) → Same xs ys ↔ ((u : Rec) → times u xs ≡ times u ys)
