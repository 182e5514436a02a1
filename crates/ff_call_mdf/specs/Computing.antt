-- What the command `mdf` does, at each of its answers.
use Rattle.std.specs.Prelude.{◌≡◌, ◌⊎◌, ℕ, min, max, List, length, Option, Result, Ok, Err, IfOk, IfErr, OnOk}
use Rattle.std.specs.Io.KnownBytes.{Appends}
use Rattle.ff_io.specs.Bytes.{AppendsPrefix}
use Rattle.ff_spawn.specs.Counts.{RoseBy}
use Rattle.ff_tasks.specs.declared.fault.LoopFault.{LoopFault}
use Rattle.ff_tasks.specs.declared.fault.LoopFault.TheVariants as fault
use Rattle.ff_prog.specs.Rules.{tasks_until}
use Rattle.ff_prog.specs.declared.statement.Statement.{Statement}
use Rattle.ff_mdf.specs.Stores.{store}
use Rattle.ff_call.specs.Counts.{Output, Spawner, count_by, raised}
use Rattle.ff_call.specs.Outside.{Outside, IsUntouched, ReadsNothing}
use Rattle.ff_call.specs.declared.fault.Fault.{Fault}
use Rattle.ff_call.specs.declared.fault.Fault.TheVariants.{Refused, Write, NoMemory}
use Rattle.ff_call_mdf.specs.Programs.{IsProgram, IsProgramFault}
use Rattle.ff_call_mdf.specs.StoreText.{store_text}
use Rattle.ff_words.specs.declared.command.Given.{Given}

-- so many workers as the words may ask for
abbrev pub workers_within : ℕ → ℕ
workers_within w = max (min w 64) 1

-- what is written of a program: the names that it puts out with their values, whatever the number of workers
abbrev pub put_out : List Statement → List ℕ
put_out p = store_text (store p)

-- the cause that a fault is
abbrev pub told : LoopFault → Fault
told fault.Refused = Refused
told fault.NoMemory = NoMemory

-- as many threads more were started as there are workers, or more, and they did as many tasks as the program has, or more
pub record HasWorked (p : List Statement) (w started started_now worked worked_now : ℕ) : Type 0 where
  pub starts : RoseBy (workers_within w) started started_now
  pub tasks : RoseBy (tasks_until p (length p)) worked worked_now

-- the tasks were done where the results were written, or their write failed
abbrev pub MayHaveWorked : List Statement → ℕ → ℕ → ℕ → ℕ → ℕ → Result ℕ Fault → Type 0
MayHaveWorked p w started started_now worked worked_now (Ok k) = HasWorked p w started started_now worked worked_now
MayHaveWorked p w started started_now worked worked_now (Err Write) = HasWorked p w started started_now worked worked_now
MayHaveWorked p w started started_now worked worked_now (Err _) = Unit {0}

-- what the output took of these bytes where a run ended so: only a write that failed may leave a part of them. There is no
-- other cause
abbrev pub LeavesBytes : Fault → Option (List ℕ) → Option (List ℕ) → List ℕ → Type 0
LeavesBytes Refused before now bytes = now ≡ before
LeavesBytes Write before now bytes = AppendsPrefix before now bytes
LeavesBytes NoMemory before now bytes = now ≡ before
LeavesBytes _ before now bytes = ⊥

-- the results were written with this answer: all of them, a part or nothing; no record is rejected
pub record WritesStore (p : List Statement) (before now : Option (List ℕ)) (faults faults_now refused refused_now : ℕ) (answer : Result ℕ Fault) : Type 0 where
  pub none : IfOk answer (λ k. k ≡ 0)
  pub all : OnOk answer (Appends before now (put_out p))
  pub part : IfErr answer (λ cause. LeavesBytes cause before now (put_out p))
  pub counts : faults_now ≡ count_by (raised Output) faults answer
  pub starts : refused_now ≡ count_by (raised Spawner) refused answer

-- how the run of a program by `w` workers ends: nothing was read
abbrev pub Computed : List Statement → ℕ → Outside → Outside → Result ℕ Fault → Type 0
Computed p w before now (Ok k) =
    (k ≡ 0) × Appends before.taken now.taken (put_out p) × HasWorked p w before.starts now.starts before.worked now.worked
    × ReadsNothing before now
Computed p w before now (Err cause) =
    LeavesBytes cause before.taken now.taken (put_out p)
    × MayHaveWorked p w before.starts now.starts before.worked now.worked (Err cause) × ReadsNothing before now

-- the text that is given is at fault, and nothing else was done
pub record IsRefusal (given : Given) (before now : Outside) (answer : Result ℕ Fault) : Type 0 where
  pub cause : Fault
  pub is : answer ≡ Err cause
  pub of_given : IsProgramFault before.told given cause
  pub untouched : IsUntouched before now

-- it is that of this program, which was run
pub record IsWork (given : Given) (w : ℕ) (before now : Outside) (answer : Result ℕ Fault) : Type 0 where
  pub program : List Statement
  pub is : IsProgram before.told given program
  pub done : Computed program w before now answer

-- one of the two
abbrev pub MdfDone : Given → ℕ → Outside → Outside → Result ℕ Fault → Type 0
MdfDone given w before now answer = IsRefusal given before now answer ⊎ IsWork given w before now answer
