-- What the lines of an input of numbers hold, and what is wrong with them.
use Rattle.std.specs.Prelude.{ℕ, suc, nat_le, if◌then◌else◌, is_none, List, [], ◌∷◌, Option, None, Some, ℤ}
use Rattle.ff_rec.specs.Lines.{Rec}
use Rattle.ff_rec.specs.Number.{number}
use Rattle.ff_numbers.specs.declared.fault.InputFault.{InputFault}
use Rattle.ff_numbers.specs.declared.fault.InputFault.TheVariants.{NotNumber, TooMany}
use Rattle.ff_numbers.specs.declared.fault.TheConstants.{MOST_NUMBERS}

-- the number of a record with one field that is one
abbrev pub lone_number : Rec → Option ℤ
lone_number [] = None
lone_number (f ∷ []) = number f
lone_number (f ∷ g ∷ r) = None

-- what is wrong with a record behind `n` others: it is one too many, whatever it holds, or no number
abbrev pub fault_at : ℕ → Rec → Option InputFault
fault_at n x = if nat_le MOST_NUMBERS n then Some TooMany else (if is_none (lone_number x) then Some (NotNumber (suc n)) else None)

-- the first, or else the second
abbrev pub or_later : Option InputFault → Option InputFault → Option InputFault
or_later None later = later
or_later (Some fault) later = Some fault

-- what is wrong first with these records behind `n` others
abbrev pub data_fault : ℕ → List Rec → Option InputFault
data_fault n [] = None
data_fault n (x ∷ xs) = or_later (fault_at n x) (data_fault (suc n) xs)
