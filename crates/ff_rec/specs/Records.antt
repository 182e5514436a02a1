-- Lists of records that are used up.
use Rattle.std.specs.Prelude.{◌≡◌, List, [], ◌∷◌, Option, None, Some}
use Rattle.ff_rec.specs.Lines.{Rec}

-- the first record is taken out, or there was none
abbrev pub TakesFirst : List Rec → Option Rec → List Rec → Type 0
TakesFirst xs None ys = (xs ≡ []) × (ys ≡ [])
TakesFirst xs (Some x) ys = xs ≡ x ∷ ys
