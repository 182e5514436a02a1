-- How work goes on. `stands j w xs front` says that in the job `j` the work `w` took the records `xs` since it began, and
-- that the bytes `front` were written; `halted j w halt xs front` that it broke off behind these records and bytes.
use Rattle.std.specs.Prelude.{◌≡◌, ℕ, true, List, [], ◌++◌, ◌⊎◌, Option, Result, Ok, Err}
use Rattle.std.specs.Io.KnownBytes.{Appends, Keeps}
use Rattle.ff_rec.specs.Counts.{more}
use Rattle.ff_rec.specs.Lines.{Rec, text}
use Rattle.ff_net.specs.Forms.{has_wrap}
use Rattle.ff_net.specs.Meaning.{Answers, Fine}
use Rattle.ff_stream.specs.Endings.{Begun, IsReported}
use Rattle.ff_stream.specs.Jobs.{Job}
use Rattle.ff_stream.specs.declared.ending.Report.{Report}
use Rattle.ff_stream.specs.declared.fault.Halt.{Halt}
use Rattle.ff_stream.specs.declared.fault.Halt.TheVariants.{Write, NoMemory}
use Rattle.ff_stream.specs.declared.fault.RunFault.{RunFault}
use Rattle.ff_stream.specs.declared.fault.RunFault.TheVariants.{Tasks, Write as WriteFault, NoMemory as NoMemoryFault}

-- a count of the sink's faults after this answer: one more where a write failed, and else the same
abbrev pub halt_count : {A : Type 0} → ℕ → Result A Halt → ℕ
halt_count n (Ok a) = n
halt_count n (Err Write) = more n
halt_count n (Err NoMemory) = n

-- the work took these records, and some bytes were written
pub record Goes {N W : Type 0} (stands : Job N → W → List Rec → List ℕ → Type 0) (w : W) (rs : List Rec) (v : W)
    (before now : Option (List ℕ)) : Type 0 where
  pub put : List ℕ
  pub taken : Appends before now put
  pub keeps : (j : Job N) (xs : List Rec) (front : List ℕ) → stands j w xs front → stands j v (xs ++ rs) (front ++ put)

-- what was written begins an answer whatever records follow, and with a wrap nothing was written
pub record IsOpen {N : Type 0} (j : Job N) (halt : Halt) (xs : List Rec) (front : List ℕ) : Type 0 where
  pub begun : (zs : List Rec) → Begun j halt (xs ++ zs) front
  pub waits : has_wrap j.net ≡ true → (front ≡ []) × (halt ≡ NoMemory)

-- what is left of work at a halt: where memory ran out it may stand as it did, and else it broke off
abbrev pub Left : {N W : Type 0} → (Job N → W → List Rec → List ℕ → Type 0) → (Job N → W → Halt → List Rec → List ℕ → Type 0)
    → Job N → W → Halt → List Rec → List ℕ → Type 0
Left stands halted j v halt xs front = ((halt ≡ NoMemory) × stands j v xs front) ⊎ halted j v halt xs front

-- the work came to a halt while it was to take these records: it took the first of them, and some bytes were written
pub record Halts {N W : Type 0} (stands : Job N → W → List Rec → List ℕ → Type 0) (halted : Job N → W → Halt → List Rec → List ℕ → Type 0)
    (w : W) (rs : List Rec) (halt : Halt) (v : W) (before now : Option (List ℕ)) : Type 0 where
  pub put : List ℕ
  pub taken : Appends before now put
  pub first : List Rec
  pub rest : List Rec
  pub splits : rs ≡ first ++ rest
  pub leaves : (j : Job N) (xs : List Rec) (front : List ℕ) → stands j w xs front → Left stands halted j v halt (xs ++ first) (front ++ put)

-- whatever records the work takes, they change nothing
abbrev pub Drops : {N W : Type 0} → (Job N → W → List Rec → List ℕ → Type 0) → W → Type 0
Drops {N} stands w = (j : Job N) (xs rs : List Rec) (front : List ℕ) → stands j w xs front → stands j w (xs ++ rs) front

-- all of an answer for these records was written, and the report tells what was rejected
pub record HasEnded {N : Type 0} (j : Job N) (xs : List Rec) (front : List ℕ) (before now : Option (List ℕ)) (report : Report) : Type 0 where
  pub put : List ℕ
  pub taken : Appends before now put
  pub sent : List Rec
  pub answers : Answers j.does j.tasks j.net xs sent
  pub whole : text sent ≡ front ++ put
  pub reports : IsReported j xs report

-- it broke off at its end
pub record HasBroken {N : Type 0} (j : Job N) (halt : Halt) (xs : List Rec) (front : List ℕ) (before now : Option (List ℕ)) : Type 0 where
  pub put : List ℕ
  pub taken : Appends before now put
  pub begun : Begun j halt xs (front ++ put)

-- a wrap has too many tasks, and nothing was written
pub record HasOverrun {N : Type 0} (j : Job N) (xs : List Rec) (front : List ℕ) (before now : Option (List ℕ)) : Type 0 where
  pub over : Fine j.does j.tasks j.net xs → ⊥
  pub nothing : front ≡ []
  pub untouched : Keeps before now

-- how work ends that took these records
abbrev pub Ends : {N : Type 0} → Job N → List Rec → List ℕ → Option (List ℕ) → Option (List ℕ) → Result Report RunFault → Type 0
Ends j xs front before now (Ok report) = HasEnded j xs front before now report
Ends j xs front before now (Err Tasks) = HasOverrun j xs front before now
Ends j xs front before now (Err WriteFault) = HasBroken j Write xs front before now
Ends j xs front before now (Err NoMemoryFault) = HasBroken j NoMemory xs front before now

-- how work ends, whatever it took
abbrev pub Finishes : {N W : Type 0} → (Job N → W → List Rec → List ℕ → Type 0) → W → Option (List ℕ) → Option (List ℕ) → Result Report RunFault → Type 0
Finishes {N} stands w before now answer = (j : Job N) (xs : List Rec) (front : List ℕ) → stands j w xs front → Ends j xs front before now answer
