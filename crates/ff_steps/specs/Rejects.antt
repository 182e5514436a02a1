-- A reject is taken out of the first unit that holds one.
use Rattle.std.specs.Prelude.{◌≡◌, ℕ, ◌<◌, List, [], ◌∷◌, length, Option, None, Some, slice_index_or, slice_set}
use Rattle.ff_rec.specs.Lines.{Rec}
use Rattle.ff_node.specs.Runs.{Handed}
use Rattle.ff_unit.specs.Units.{Doing}

-- each unit below the first `p` holds none
abbrev pub NoneBelow : {U : Type 0} → Doing U → List U → ℕ → Type 0
NoneBelow {U} b units p = (q : ℕ) (u : U) → q < p → u ≡ slice_index_or units q u → b.kept u ≡ []

-- the first unit that holds a reject gives its first, and nothing else changes
pub record HandsFirst {U : Type 0} (b : Doing U) (units : List U) (x : Rec) (units' : List U) : Type 0 where
  pub p : ℕ
  pub within : p < length units
  pub below : NoneBelow b units p
  pub old : U
  pub new : U
  pub was : old ≡ slice_index_or units p old
  pub hands : b.Steps old (Handed x) new
  pub held : b.kept old ≡ x ∷ b.kept new
  pub is : units' ≡ slice_set units p new

abbrev pub Hands : {U : Type 0} → Doing U → List U → Option Rec → List U → Type 0
Hands b units None units' = NoneBelow b units (length units) × (units' ≡ units)
Hands b units (Some x) units' = HandsFirst b units x units'
