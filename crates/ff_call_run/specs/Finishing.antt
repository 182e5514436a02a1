-- How a run is finished, whose network answered.
use Rattle.std.specs.Prelude.{◌≡◌, ℕ, ◌⊎◌, Bool, true, List, Option, Some, Result, Ok, Err}
use Rattle.ff_io.specs.Files.{Holdings, KeepsAll, KeepsOthers}
use Rattle.ff_stream.specs.declared.ending.Report.{Report}
use Rattle.ff_stream.specs.declared.ending.Ending.{Ending}
use Rattle.ff_engine.specs.declared.fault.NetFault.{NetFault}
use Rattle.ff_engine.specs.declared.fault.NetFault.TheVariants as net
use Rattle.ff_stream.specs.declared.fault.RunFault.TheVariants as run
use Rattle.ff_stream.specs.declared.ending.Stop.{Stop}
use Rattle.ff_stream.specs.declared.ending.Stop.TheVariants as stop
use Rattle.ff_engine.specs.Runs.{NetRan}
use Rattle.ff_ops.specs.Operation.{OpState}
use Rattle.ff_stream.specs.Endings.{Told}
use Rattle.ff_stream.specs.Jobs.{Job}
use Rattle.ff_call.specs.Outside.{Outside}
use Rattle.ff_call_run.specs.Running.{KeepsBut, RanByThreads, Stored, streams_of}
use Rattle.ff_call.specs.declared.fault.Fault.{Fault}
use Rattle.ff_call.specs.declared.fault.Fault.TheVariants.{Refused, Tasks, Write, Rejects, Read, Line, NoMemory}

-- when a file for the rejected records, of which there were `count`, isn't stored
abbrev pub IsStoreFault : Option (List ℕ) → ℕ → Fault → Type 0
IsStoreFault rejects count (Rejects name n) = (rejects ≡ Some name) × (n ≡ count)
IsStoreFault rejects count NoMemory = Unit {0}
IsStoreFault rejects count _ = ⊥

-- the file that is named for the rejected records failed
pub record HasFailed (rejects : Option (List ℕ)) (report : Report) (told now : Option Holdings) (answer : Result ℕ Fault) : Type 0 where
  pub name : List ℕ
  pub is : answer ≡ Err (Rejects name report.rejected)
  pub named : rejects ≡ Some name
  pub others : KeepsOthers told now name

-- The rejected records of a report are stored where a file is named for them, and the answer is `done`. Or the file failed,
-- or memory ran out.
abbrev pub Closes : Option (List ℕ) → Report → Option Holdings → Option Holdings → Result ℕ Fault → Result ℕ Fault → Type 0
Closes rejects report told now done answer =
    ((answer ≡ done) × Stored rejects report.kept told now)
    ⊎ (HasFailed rejects report told now answer
    ⊎ ((answer ≡ Err NoMemory) × KeepsBut rejects told now))

-- the answer of a run that stopped reading so, and rejected so many records
abbrev pub closing : Stop → ℕ → Result ℕ Fault
closing stop.End n = Ok n
closing stop.Read n = Err (Read n)
closing (stop.Line fault) n = Err (Line fault n)

-- How the network answered, and that it ran by threads, where it was to. Without threads no start is refused.
abbrev pub Answered : Job OpState → Bool → Outside → Outside → Result Ending NetFault → Type 0
Answered j threads before now (Ok ending) =
    Told j (streams_of before now) (λ xs. threads ≡ true → RanByThreads j xs before now) ending
Answered j threads before now (Err net.Refused) = (threads ≡ true) × NetRan j (streams_of before now) (Err net.Refused)
Answered j threads before now (Err (net.Run fault)) = NetRan j (streams_of before now) (Err (net.Run fault))

-- by the answer of the network
abbrev pub Finished : ℕ → Option (List ℕ) → Result Ending NetFault → Option Holdings → Option Holdings → Result ℕ Fault → Type 0
Finished tasks rejects (Ok ending) told now answer =
    Closes rejects ending.report told now (closing ending.stop ending.report.rejected) answer
Finished tasks rejects (Err net.Refused) told now answer = (answer ≡ Err Refused) × KeepsAll told now
Finished tasks rejects (Err (net.Run run.Tasks)) told now answer = (answer ≡ Err (Tasks tasks)) × KeepsAll told now
Finished tasks rejects (Err (net.Run run.Write)) told now answer = (answer ≡ Err Write) × KeepsAll told now
Finished tasks rejects (Err (net.Run run.NoMemory)) told now answer = (answer ≡ Err NoMemory) × KeepsAll told now
