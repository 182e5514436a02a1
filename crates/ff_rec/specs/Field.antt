-- What `Field::new` answers.
use Rattle.std.specs.Prelude.{◌≡◌, ℕ, Bool, ◌==◌, ◌||◌, List, Some, Result, Ok, Err}
use Rattle.std.specs.List.{position}
use Rattle.ff_rec.specs.Lines.{IsPlain}
use Rattle.ff_rec.specs.declared.fault.FieldFault.{FieldFault}
use Rattle.ff_rec.specs.declared.fault.FieldFault.TheVariants.{BadByte, NoMemory}

-- a byte that no field may hold
abbrev pub is_separator : ℕ → Bool
is_separator c = c == 9 || c == 10

-- a field of just these bytes where they are plain, and else the place of the first separator
abbrev pub IsFieldAnswer : List ℕ → Result (List ℕ) FieldFault → Type 0
IsFieldAnswer bytes (Ok field) = (field ≡ bytes) × IsPlain bytes
IsFieldAnswer bytes (Err (BadByte at)) = position is_separator bytes ≡ Some at
IsFieldAnswer bytes (Err NoMemory) = Unit {0}
