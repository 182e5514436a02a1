-- What the command `soak` does, at each of its answers.
use Rattle.std.specs.Prelude.{◌≡◌, ℕ, ◌+◌, min, max, List, Option, Result, Ok, Err, IfOk, IfErr, OnOk}
use Rattle.std.specs.Io.KnownBytes.{Appends}
use Rattle.ff_io.specs.Bytes.{AppendsPrefix}
use Rattle.ff_net.specs.Counts.{units}
use Rattle.ff_soak.specs.Networks.{soak_answer, soak_net}
use Rattle.ff_soak.specs.Printing.{summary_text}
use Rattle.ff_soak.specs.Summaries.{summary_of}
use Rattle.ff_soak.specs.declared.fault.SoakFault.{SoakFault}
use Rattle.ff_soak.specs.declared.fault.SoakFault.TheVariants as fault
use Rattle.ff_spawn.specs.Counts.{RoseBy}
use Rattle.ff_call.specs.Counts.{Output, Spawner, count_by, raised}
use Rattle.ff_call.specs.Outside.{Outside, ReadsNothing}
use Rattle.ff_call.specs.declared.fault.Fault.{Fault}
use Rattle.ff_call.specs.declared.fault.Fault.TheVariants.{Refused, Write, NoMemory}

-- so many records and workers as the words may ask for
abbrev pub records_within : ℕ → ℕ
records_within n = min n 10000000

abbrev pub workers_within : ℕ → ℕ
workers_within w = max (min w 16) 1

-- what is written of a soak: the summary, which doesn't depend on the number of workers
abbrev pub soaked : ℕ → List ℕ
soaked n = summary_text (summary_of (records_within n) (soak_answer 0 1 (records_within n)))

-- the cause that a fault is
abbrev pub told : SoakFault → Fault
told fault.Refused = Refused
told fault.NoMemory = NoMemory

-- so many threads more were started as there are units, or more, and they handled as many messages as there are records and units
-- together, or more
pub record RanThreads (n w started started_now handled handled_now : ℕ) : Type 0 where
  pub starts : RoseBy (units (soak_net (workers_within w))) started started_now
  pub worked : RoseBy (units (soak_net (workers_within w)) + records_within n) handled handled_now

-- what the output took of these bytes where a soak ended so: only a write that failed may leave a part of them. A soak has no
-- other cause
abbrev pub LeavesSoaked : Fault → Option (List ℕ) → Option (List ℕ) → List ℕ → Type 0
LeavesSoaked Refused before now bytes = now ≡ before
LeavesSoaked Write before now bytes = AppendsPrefix before now bytes
LeavesSoaked NoMemory before now bytes = now ≡ before
LeavesSoaked _ before now bytes = ⊥

-- the threads had done their work where the summary was written, or its write failed
abbrev pub MayHaveRanThreads : ℕ → ℕ → ℕ → ℕ → ℕ → ℕ → Result ℕ Fault → Type 0
MayHaveRanThreads n w started started_now handled handled_now (Ok k) = RanThreads n w started started_now handled handled_now
MayHaveRanThreads n w started started_now handled handled_now (Err Write) = RanThreads n w started started_now handled handled_now
MayHaveRanThreads n w started started_now handled handled_now (Err _) = Unit {0}

-- the summary was written with this answer: all of it, a part or nothing; no record is rejected
pub record Soaks (n : ℕ) (before now : Option (List ℕ)) (faults faults_now refused refused_now : ℕ) (answer : Result ℕ Fault) : Type 0 where
  pub none : IfOk answer (λ k. k ≡ 0)
  pub all : OnOk answer (Appends before now (soaked n))
  pub part : IfErr answer (λ cause. LeavesSoaked cause before now (soaked n))
  pub counts : faults_now ≡ count_by (raised Output) faults answer
  pub starts : refused_now ≡ count_by (raised Spawner) refused answer

-- how a soak of `n` records by `w` workers ends: nothing was read
abbrev pub Soaked : ℕ → ℕ → Outside → Outside → Result ℕ Fault → Type 0
Soaked n w before now (Ok k) =
    (k ≡ 0) × Appends before.taken now.taken (soaked n) × RanThreads n w before.starts now.starts before.worked now.worked × ReadsNothing before now
Soaked n w before now (Err cause) =
    LeavesSoaked cause before.taken now.taken (soaked n)
    × MayHaveRanThreads n w before.starts now.starts before.worked now.worked (Err cause) × ReadsNothing before now
