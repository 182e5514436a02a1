-- What was read of a source, at each answer of the reading of its numbers. Lines and the input have the limits of version One.
use Rattle.std.specs.Prelude.{◌≡◌, ◌≤◌, ℕ, Bool, true, false, List, length, map, Option, None, Some, Result, Ok, Err, ℤ}
use Rattle.std.specs.Io.KnownBytes.{Consumes, IsAtEnd}
use Rattle.ff_rec.specs.Counts.{more}
use Rattle.ff_rec.specs.declared.fault.LineFault.{LineFault}
use Rattle.ff_net.specs.Versions.{limit_by, seen_by}
use Rattle.ff_net.specs.declared.net.Version.TheVariants.{One}
use Rattle.ff_numbers.specs.Data.{data_fault, lone_number}
use Rattle.ff_numbers.specs.declared.fault.InputFault.{InputFault}
use Rattle.ff_numbers.specs.declared.fault.InputFault.TheVariants.{Read, Line, NotNumber, TooMany, NoMemory}
use Rattle.ff_numbers.specs.declared.fault.TheConstants.{MOST_NUMBERS}

-- the source was read to its end, passed no limit, and each of its lines is one of these numbers, in their order
pub record IsRead (ns : List ℤ) (left left_now : Option (List ℕ)) (ended : Bool) : Type 0 where
  pub got : List ℕ
  pub reads : Consumes left left_now got
  pub within : limit_by One got ≡ None
  pub is_end : ended ≡ true
  pub at_end : IsAtEnd left_now
  pub numbers : map lone_number (seen_by One got true) ≡ map Some ns
  pub few : length ns ≤ MOST_NUMBERS

-- the source was read up to this limit, or to a read that failed, and nothing is wrong with the lines before
pub record IsCutOff (limit : Option LineFault) (left left_now : Option (List ℕ)) (ended : Bool) : Type 0 where
  pub got : List ℕ
  pub reads : Consumes left left_now got
  pub limit_is : limit_by One got ≡ limit
  pub going : ended ≡ false
  pub fine : data_fault 0 (seen_by One got false) ≡ None

-- this is wrong first with the lines that were read, before any limit
pub record IsWrong (fault : InputFault) (left left_now : Option (List ℕ)) (ended : Bool) : Type 0 where
  pub got : List ℕ
  pub reads : Consumes left left_now got
  pub is : data_fault 0 (seen_by One got ended) ≡ Some fault

-- when each fault comes
abbrev pub Comes : InputFault → Option (List ℕ) → Option (List ℕ) → Bool → Type 0
Comes Read left left_now ended = IsCutOff None left left_now ended
Comes (Line passed) left left_now ended = IsCutOff (Some passed) left left_now ended
Comes (NotNumber line) left left_now ended = IsWrong (NotNumber line) left left_now ended
Comes TooMany left left_now ended = IsWrong TooMany left left_now ended
Comes NoMemory left left_now ended = (got : List ℕ) × Consumes left left_now got

-- the count of the source's faults behind this answer: one more where a read failed
abbrev pub source_count : {A : Type 0} → ℕ → Result A InputFault → ℕ
source_count n (Ok a) = n
source_count n (Err Read) = more n
source_count n (Err _) = n
