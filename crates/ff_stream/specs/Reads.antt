-- How a source was read, and what came of it.
use Rattle.std.specs.Prelude.{◌≡◌, ℕ, ◌+◌, ◌≤◌, Bool, true, false, List, [], ◌++◌, length, Option, None, Some, option_map}
use Rattle.std.specs.Io.KnownBytes.{Consumes, IsAtEnd}
use Rattle.ff_rec.specs.declared.fault.FeedFault.{FeedFault}
use Rattle.ff_rec.specs.declared.fault.FeedFault.TheVariants.{Line as Passed}
use Rattle.ff_rec.specs.declared.fault.LineFault.{LineFault}
use Rattle.ff_rec.specs.Lines.{Rec}
use Rattle.ff_rec.specs.Reading.{Reading, after, given, last_given}
use Rattle.ff_stream.specs.Jobs.{Job}
use Rattle.ff_stream.specs.Works.{Goes, Halts}
use Rattle.ff_stream.specs.declared.ending.Stop.{Stop}
use Rattle.ff_stream.specs.declared.ending.Stop.TheVariants.{End, Read, Line}
use Rattle.ff_stream.specs.declared.fault.Halt.{Halt}

-- the reader took these bytes, up to this limit, if they pass one
pub record HasTaken (r s : Reading) (bytes : List ℕ) (fault : Option LineFault) : Type 0 where
  pub state : s ≡ after r bytes
  pub refusal : s.fault ≡ option_map Passed fault
  pub taken : fault ≡ None → s.taken ≡ r.taken + length bytes
  pub room : fault ≡ None → s.taken ≤ r.input_limit

-- what the reader and the source are where no more is read: at the end, at a read that failed, at a limit that was passed
abbrev pub StopsAt : Stop → Option FeedFault → Bool → Option (List ℕ) → Type 0
StopsAt End fault ended left = (fault ≡ None) × (ended ≡ true) × IsAtEnd left
StopsAt Read fault ended left = (fault ≡ None) × (ended ≡ false)
StopsAt (Line passed) fault ended left = (fault ≡ Some (Passed passed)) × (ended ≡ false)

-- the record of a last line without a newline, which is used at the end alone
abbrev pub last_of : Stop → List ℕ → List Rec
last_of End line = last_given line
last_of Read line = []
last_of (Line passed) line = []

-- some bytes were read, and the work took the records of the lines that they end
pub record Reads {N W : Type 0} (stands : Job N → W → List Rec → List ℕ → Type 0) (w : W) (r : Reading) (v : W) (s : Reading)
    (left_before left_now before now : Option (List ℕ)) : Type 0 where
  pub got : List ℕ
  pub reads : Consumes left_before left_now got
  pub reader : s ≡ after r got
  pub goes : Goes stands w (given r got) v before now

-- some bytes were read, and the work came to a halt
pub record ReadsSome {N W : Type 0} (stands : Job N → W → List Rec → List ℕ → Type 0) (halted : Job N → W → Halt → List Rec → List ℕ → Type 0)
    (w : W) (r : Reading) (halt : Halt) (v : W) (left_before left_now before now : Option (List ℕ)) : Type 0 where
  pub got : List ℕ
  pub reads : Consumes left_before left_now got
  pub halts : Halts stands halted w (given r got) halt v before now

-- the work took the first of these records, and the others are left
pub record Hands {N W : Type 0} (stands : Job N → W → List Rec → List ℕ → Type 0) (w : W) (rs : List Rec) (v : W) (rest : List Rec)
    (before now : Option (List ℕ)) : Type 0 where
  pub first : List Rec
  pub splits : rs ≡ first ++ rest
  pub goes : Goes stands w first v before now
