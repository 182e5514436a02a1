-- What came of a stream that was taken in: how far it was read, and what was written meanwhile.
use Rattle.std.specs.Prelude.{◌≡◌, ℕ, List, ◌++◌, Result, Ok, Err}
use Rattle.std.specs.Io.KnownBytes.{Appends, Consumes}
use Rattle.ff_rec.specs.Lines.{Rec}
use Rattle.ff_net.specs.Versions.{limit_by}
use Rattle.ff_stream.specs.Endings.{Stopped, records_of, stop_count}
use Rattle.ff_stream.specs.Jobs.{Job}
use Rattle.ff_stream.specs.Streams.{Streams}
use Rattle.ff_stream.specs.Works.{Left}
use Rattle.ff_stream.specs.declared.ending.Stop.{Stop}
use Rattle.ff_stream.specs.declared.fault.Halt.{Halt}

-- the work took the records of what was read, and these bytes were written
pub record IsTaken {N W : Type 0} (stands : Job N → W → List Rec → List ℕ → Type 0) (j : Job N) (w : W) (stop : Stop) (s : Streams) : Type 0 where
  pub got : List ℕ
  pub reads : Consumes s.left s.left_now got
  pub front : List ℕ
  pub writes : Appends s.taken s.taken_now front
  pub stands_so : stands j w (records_of j s got) front
  pub stops : Stopped stop (limit_by j.version got) s.ended s.left_now

-- the work came to a halt behind the first records of what was read
pub record IsHalted {N W : Type 0} (stands : Job N → W → List Rec → List ℕ → Type 0) (halted : Job N → W → Halt → List Rec → List ℕ → Type 0)
    (j : Job N) (halt : Halt) (w : W) (s : Streams) : Type 0 where
  pub got : List ℕ
  pub reads : Consumes s.left s.left_now got
  pub front : List ℕ
  pub writes : Appends s.taken s.taken_now front
  pub first : List Rec
  pub rest : List Rec
  pub splits : records_of j s got ≡ first ++ rest
  pub left : Left stands halted j w halt first front

-- a count of the source's faults after the reading: by the stop, and the same where it came to a halt
abbrev pub source_count : {E : Type 0} → ℕ → Result Stop E → ℕ
source_count n (Ok stop) = stop_count n stop
source_count n (Err e) = n
