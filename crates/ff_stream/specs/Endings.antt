-- How a run over a stream ends, however its work is done: what was read and written at each answer, and which count of
-- faults rose.
use Rattle.std.specs.Prelude.{◌≡◌, ℕ, Bool, true, false, List, [], ◌++◌, ◌⊎◌, Option, None, Some, Result, Ok, Err}
use Rattle.std.specs.Io.KnownBytes.{Appends, Consumes, Keeps, IsAtEnd}
use Rattle.ff_rec.specs.Counts.{more}
use Rattle.ff_rec.specs.Lines.{Rec, text}
use Rattle.ff_rec.specs.declared.fault.LineFault.{LineFault}
use Rattle.ff_net.specs.Forms.{has_wrap}
use Rattle.ff_net.specs.Kept.{AreKept}
use Rattle.ff_net.specs.Meaning.{Answers, Fine, mean_rejected, mean_rejected_count}
use Rattle.ff_net.specs.Versions.{limit_by, seen_by}
use Rattle.ff_stream.specs.Jobs.{Job}
use Rattle.ff_stream.specs.Streams.{Streams}
use Rattle.ff_stream.specs.declared.ending.Ending.{Ending}
use Rattle.ff_stream.specs.declared.ending.Report.{Report}
use Rattle.ff_stream.specs.declared.ending.Stop.{Stop}
use Rattle.ff_stream.specs.declared.ending.Stop.TheVariants.{End, Read, Line}
use Rattle.ff_stream.specs.declared.fault.Halt.{Halt}
use Rattle.ff_stream.specs.declared.fault.Halt.TheVariants.{Write, NoMemory}
use Rattle.ff_stream.specs.declared.fault.RunFault.{RunFault}
use Rattle.ff_stream.specs.declared.fault.RunFault.TheVariants.{Tasks, Write as WriteFault, NoMemory as NoMemoryFault}

-- the fault that a halt is
abbrev pub halted : Halt → RunFault
halted Write = WriteFault
halted NoMemory = NoMemoryFault

-- the records of what was read, within the limits of the version
abbrev pub records_of : {N : Type 0} → Job N → Streams → List ℕ → List Rec
records_of j s got = seen_by j.version got s.ended

-- why no more was read: the input ended, or, before its end was told, a read failed or a limit of the version was passed
abbrev pub Stopped : Stop → Option LineFault → Bool → Option (List ℕ) → Type 0
Stopped End found ended left = (found ≡ None) × (ended ≡ true) × IsAtEnd left
Stopped Read found ended left = (found ≡ None) × (ended ≡ false)
Stopped (Line fault) found ended left = (found ≡ Some fault) × (ended ≡ false)

-- a count of the input's faults after this stop: one more where a read failed, and else the same
abbrev pub stop_count : ℕ → Stop → ℕ
stop_count n End = n
stop_count n Read = more n
stop_count n (Line fault) = n

-- the report tells what the nodes reject for these records
pub record IsReported {N : Type 0} (j : Job N) (xs : List Rec) (report : Report) : Type 0 where
  pub rejected : report.rejected ≡ mean_rejected_count j.does j.tasks j.net xs
  pub kept : AreKept j.keep (mean_rejected j.does j.tasks j.net xs) report.kept

-- the network ran over the records of what was read, and the text of an answer was taken
pub record HasRun {N : Type 0} (j : Job N) (s : Streams) (ending : Ending) : Type 0 where
  pub got : List ℕ
  pub reads : Consumes s.left s.left_now got
  pub sent : List Rec
  pub answers : Answers j.does j.tasks j.net (records_of j s got) sent
  pub writes : Appends s.taken s.taken_now (text sent)
  pub reports : IsReported j (records_of j s got) ending.report
  pub stops : Stopped ending.stop (limit_by j.version got) s.ended s.left_now

-- the run that an answer tells of, and a fact that holds of the records that were read
pub record Told {N : Type 0} (j : Job N) (s : Streams) (fact : List Rec → Type 0) (ending : Ending) : Type 0 where
  pub run : HasRun j s ending
  pub told : fact (records_of j s run.got)

-- no more was to be read, and the count of the input's faults tells where a read failed
pub record IsReadOut {N : Type 0} (j : Job N) (s : Streams) (got : List ℕ) : Type 0 where
  pub stop : Stop
  pub stops : Stopped stop (limit_by j.version got) s.ended s.left_now
  pub counts : s.faults_now ≡ stop_count s.faults stop

-- the text of an answer for these records begins with these bytes
pub record IsBeginning {N : Type 0} (j : Job N) (xs : List Rec) (front : List ℕ) : Type 0 where
  pub sent : List Rec
  pub back : List ℕ
  pub answers : Answers j.does j.tasks j.net xs sent
  pub splits : text sent ≡ front ++ back

-- what was written where a run for these records was cut short: where memory ran out there may be no answer yet
abbrev pub Begun : {N : Type 0} → Job N → Halt → List Rec → List ℕ → Type 0
Begun j Write xs front = IsBeginning j xs front
Begun j NoMemory xs front = (front ≡ []) ⊎ IsBeginning j xs front

-- It was cut short. While there was more to read, what was written begins an answer whatever records follow, so nothing of
-- it comes from the end of the input. With a wrap nothing is written before all was read.
pub record IsCutShort {N : Type 0} (j : Job N) (s : Streams) (halt : Halt) : Type 0 where
  pub got : List ℕ
  pub reads : Consumes s.left s.left_now got
  pub front : List ℕ
  pub writes : Appends s.taken s.taken_now front
  pub begun : Begun j halt (records_of j s got) front
  pub goes_on : IsReadOut j s got ⊎ ((zs : List Rec) → Begun j halt (records_of j s got ++ zs) front)
  pub waits : has_wrap j.net ≡ true → IsReadOut j s got ⊎ ((front ≡ []) × (halt ≡ NoMemory))

-- a wrap has too many tasks for the records of what was read, and nothing was written
pub record IsOverrun {N : Type 0} (j : Job N) (s : Streams) : Type 0 where
  pub got : List ℕ
  pub reads : Consumes s.left s.left_now got
  pub over : Fine j.does j.tasks j.net (records_of j s got) → ⊥
  pub untouched : Keeps s.taken s.taken_now
  pub read_out : IsReadOut j s got

-- what was read and written at each answer
abbrev pub Ran : {N : Type 0} → Job N → Streams → Result Ending RunFault → Type 0
Ran j s (Ok ending) = HasRun j s ending
Ran j s (Err Tasks) = IsOverrun j s
Ran j s (Err WriteFault) = IsCutShort j s Write
Ran j s (Err NoMemoryFault) = IsCutShort j s NoMemory

-- how the count of the input's faults went: it rose by one where a read failed, after which the network may still be over
-- its limit, and the output or memory may still fail; else it is the same
abbrev pub CountsInput : ℕ → ℕ → Result Ending RunFault → Type 0
CountsInput before now (Ok ending) = now ≡ stop_count before ending.stop
CountsInput before now (Err fault) = (now ≡ before) ⊎ (now ≡ more before)

-- the count of the output's faults after this answer: one more where a write failed, and else the same
abbrev pub output_count : {A : Type 0} → ℕ → Result A RunFault → ℕ
output_count n (Ok a) = n
output_count n (Err Tasks) = n
output_count n (Err WriteFault) = more n
output_count n (Err NoMemoryFault) = n
