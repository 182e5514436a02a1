-- How far a source was read, and which numbers came of it.
use Rattle.std.specs.Prelude.{◌≡◌, ◌≤◌, ℕ, Bool, false, List, ◌++◌, length, map, Option, None, Some, ℤ}
use Rattle.std.specs.Io.KnownBytes.{Consumes}
use Rattle.ff_rec.specs.Lines.{Rec}
use Rattle.ff_rec.specs.Reading.{Reading, after, given}
use Rattle.ff_rec.specs.declared.fault.FeedFault.{FeedFault}
use Rattle.ff_rec.specs.declared.fault.FeedFault.TheVariants.{Line as Passed}
use Rattle.ff_numbers.specs.Data.{data_fault, lone_number}
use Rattle.ff_numbers.specs.declared.fault.InputFault.{InputFault}
use Rattle.ff_numbers.specs.declared.fault.InputFault.TheVariants.{Read, Line, NotNumber, TooMany, NoMemory}
use Rattle.ff_numbers.specs.declared.fault.TheConstants.{MOST_NUMBERS}

-- the numbers of these records stand behind those before
pub record Adds (xs : List Rec) (ns now : List ℤ) : Type 0 where
  pub more : List ℤ
  pub numbers : map lone_number xs ≡ map Some more
  pub all : now ≡ ns ++ more
  pub few : length now ≤ MOST_NUMBERS

-- something is wrong with these records behind `n` others, or memory ran out
abbrev pub IsDataFault : ℕ → List Rec → InputFault → Type 0
IsDataFault n xs Read = ⊥
IsDataFault n xs (Line passed) = ⊥
IsDataFault n xs (NotNumber line) = data_fault n xs ≡ Some (NotNumber line)
IsDataFault n xs TooMany = data_fault n xs ≡ Some TooMany
IsDataFault n xs NoMemory = Unit {0}

-- some bytes were read, and the numbers of the lines that they end were added
pub record Reads (r : Reading) (ns : List ℤ) (s : Reading) (now : List ℤ) (left left_now : Option (List ℕ)) : Type 0 where
  pub got : List ℕ
  pub reads : Consumes left left_now got
  pub reader : s ≡ after r got
  pub adds : Adds (given r got) ns now

-- some bytes were read, up to this refusal of the reader, if any, and nothing is wrong with the lines that they end
pub record ReadsTo (refusal : Option FeedFault) (r : Reading) (n : ℕ) (left left_now : Option (List ℕ)) (ended : Bool) : Type 0 where
  pub got : List ℕ
  pub reads : Consumes left left_now got
  pub refusal_is : (after r got).fault ≡ refusal
  pub going : ended ≡ false
  pub fine : data_fault n (given r got) ≡ None

-- some bytes were read, and this is wrong first with the lines that they end
pub record ReadsWrong (fault : InputFault) (r : Reading) (n : ℕ) (left left_now : Option (List ℕ)) (ended : Bool) : Type 0 where
  pub got : List ℕ
  pub reads : Consumes left left_now got
  pub going : ended ≡ false
  pub wrong : data_fault n (given r got) ≡ Some fault

-- why no more was read before the end of the source
abbrev pub Stops : InputFault → Reading → List ℤ → Option (List ℕ) → Option (List ℕ) → Bool → Type 0
Stops Read r ns left left_now ended = ReadsTo None r (length ns) left left_now ended
Stops (Line passed) r ns left left_now ended = ReadsTo (Some (Passed passed)) r (length ns) left left_now ended
Stops (NotNumber line) r ns left left_now ended = ReadsWrong (NotNumber line) r (length ns) left left_now ended
Stops TooMany r ns left left_now ended = ReadsWrong TooMany r (length ns) left left_now ended
Stops NoMemory r ns left left_now ended = (got : List ℕ) × Consumes left left_now got
