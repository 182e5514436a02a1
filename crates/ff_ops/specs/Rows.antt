-- Words that the rows of the operations share.
use Rattle.std.specs.Prelude.{ℕ, ◌-◌, ◌^◌, nat_lt, Bool, if◌then◌else◌, List, [], ◌∷◌, slice_set, Option, None, Some, ℤ, pos, negsuc}
pub use Rattle.ff_rec.specs.Fields.{number_in}
use Rattle.ff_rec.specs.Lines.{Rec}
use Rattle.ff_rec.specs.Number.{printed}

-- a number from -2^63 to 2^63 - 1; `negsuc n` is -(n + 1)
abbrev pub in_range : ℤ → Option ℤ
in_range (pos n) = if nat_lt n (2 ^ 63) then Some (pos n) else None
in_range (negsuc n) = if nat_lt n (2 ^ 63) then Some (negsuc n) else None

-- the record with other bytes in field `f`
abbrev pub with_field : ℕ → List ℕ → Rec → Rec
with_field f bytes r = slice_set r (f - 1) bytes

-- the record with a number, as it is printed, in field `f`
abbrev pub with_number : ℕ → ℤ → Rec → Rec
with_number f n r = with_field f (printed n) r

-- the record where the test passes, else nothing
abbrev pub sent_if : Bool → Rec → List Rec
sent_if passes r = if passes then r ∷ [] else []

-- what is sent, where anything is decided
abbrev pub sends_of : Option (List Rec) → List Rec
sends_of None = []
sends_of (Some sends) = sends

-- a record for which nothing is decided is rejected as it came
abbrev pub rejects_of : Option (List Rec) → Rec → List Rec
rejects_of None r = r ∷ []
rejects_of (Some sends) r = []
