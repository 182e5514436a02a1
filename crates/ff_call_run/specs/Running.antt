-- What the command `run` does with a network, at each of its answers.
use Rattle.std.specs.Prelude.{◌≡◌, ℕ, ◌+◌, ◌⊎◌, Bool, true, false, is_some, List, length, Option, None, Some, IsSome, IsSomeAnd, Result, Ok, Err}
use Rattle.ff_rec.specs.Lines.{Rec, text}
use Rattle.ff_io.specs.Files.{Holdings, HoldsBytes, KeepsAll, KeepsOthers}
use Rattle.ff_net.specs.Counts.{units}
use Rattle.ff_net.specs.Forms.{sweeps}
use Rattle.ff_net.specs.Meaning.{Fine}
use Rattle.ff_net.specs.Tree.{Tree}
use Rattle.ff_net.specs.Versions.{limit_by, seen_by}
use Rattle.ff_ops.specs.Operation.{OpState, op_node}
use Rattle.ff_spawn.specs.Counts.{RoseBy}
use Rattle.ff_stream.specs.declared.ending.Report.{Report}
use Rattle.ff_stream.specs.Jobs.{Job, job}
use Rattle.ff_engine.specs.Runs.{IsUntouched}
use Rattle.ff_stream.specs.Endings.{HasRun, IsCutShort, IsOverrun, records_of, stop_count}
use Rattle.ff_stream.specs.declared.ending.Ending.{Ending}
use Rattle.ff_stream.specs.declared.fault.Halt.TheVariants as halt
use Rattle.ff_stream.specs.declared.ending.Stop.{Stop}
use Rattle.ff_stream.specs.declared.ending.Stop.TheVariants as stop
use Rattle.ff_stream.specs.Streams.{Streams, streams}
use Rattle.ff_call.specs.Outside.{Outside}
use Rattle.ff_call.specs.Texts.{version}
use Rattle.ff_call.specs.declared.fault.Fault.{Fault}
use Rattle.ff_call.specs.declared.fault.Fault.TheVariants.{Refused, NoSweep, Tasks, Write, Rejects, Read, Line, NoMemory}
use Rattle.ff_words.specs.declared.command.Way.{Way}
use Rattle.ff_words.specs.declared.command.Way.TheVariants.{Threads, One, Sweep}

-- the input and the output of a call
abbrev pub streams_of : Outside → Outside → Streams
streams_of before now = streams (λ o. o.left) (λ o. o.ended) (λ o. o.input_faults) (λ o. o.taken) before now before now

-- the job of a network that is run: with a name for the rejected records, these are kept
abbrev pub run_job : Tree OpState → ℕ → Option (List ℕ) → Job OpState
run_job t tasks rejects = job op_node t version tasks (is_some rejects)

-- every name but that for the rejected records, where one is given, holds what it held
abbrev pub KeepsBut : Option (List ℕ) → Option Holdings → Option Holdings → Type 0
KeepsBut None told now = KeepsAll told now
KeepsBut (Some name) told now = KeepsOthers told now name

-- the file for the rejected records holds these, where one is given, and every other name what it held
abbrev pub Stored : Option (List ℕ) → List Rec → Option Holdings → Option Holdings → Type 0
Stored None kept told now = KeepsAll told now
Stored (Some name) kept told now = HoldsBytes now name (text kept) × KeepsOthers told now name

-- a network is run by threads unless the words ask for one thread
abbrev pub by_threads : Way → Bool
by_threads Threads = true
by_threads One = false
by_threads Sweep = false

-- what is to be swept can be: no wrap stands in it, and nothing goes on demand
abbrev pub MayRun : Way → Tree OpState → Type 0
MayRun way t = way ≡ Sweep → sweeps t ≡ true

-- it is to be swept, and can't be
abbrev pub CannotSweep : Way → Tree OpState → Type 0
CannotSweep way t = (way ≡ Sweep) × (sweeps t ≡ false)

-- that a network can't be swept is answered exactly where it is to be
abbrev pub AllowedBy : Way → Tree OpState → Result ℕ Fault → Type 0
AllowedBy way t (Err NoSweep) = CannotSweep way t
AllowedBy way t _ = MayRun way t

-- it may be run so, and its input is known, passes no limit, and gives no wrap more tasks than it may have
abbrev pub IsRunWithin : Way → ℕ → Tree OpState → Option (List ℕ) → Type 0
IsRunWithin way tasks t left =
    MayRun way t
    × IsSomeAnd left (λ bytes.
    (limit_by version bytes ≡ None) × Fine op_node tasks t (seen_by version bytes true))

-- the same, but that the input passes a limit or gives a wrap more tasks than it may have
abbrev pub IsRunBeyond : Way → ℕ → Tree OpState → Option (List ℕ) → Type 0
IsRunBeyond way tasks t left =
    MayRun way t
    × IsSomeAnd left (λ bytes.
    IsSome (limit_by version bytes) ⊎ (Fine op_node tasks t (seen_by version bytes true) → ⊥))

-- so many threads more were started as there are units, or more, and they handled as many messages as there are records and units
-- together, or more
pub record RanByThreads (j : Job OpState) (xs : List Rec) (before now : Outside) : Type 0 where
  pub starts : RoseBy (units j.net) before.starts now.starts
  pub worked : RoseBy (units j.net + length xs) before.worked now.worked

-- The network ran, by threads where it was to, and stopped reading so. So many records were rejected, and these are stored
-- where a file is given for them.
pub record HasStored (j : Job OpState) (threads : Bool) (rejects : Option (List ℕ)) (before now : Outside) (why : Stop) (count : ℕ) : Type 0 where
  pub report : Report
  pub ran : HasRun j (streams_of before now) (record { stop = why; report = report })
  pub rejected : count ≡ report.rejected
  pub stored : Stored rejects report.kept before.told now.told
  pub work : threads ≡ true → RanByThreads j (records_of j (streams_of before now) ran.got) before now

-- the network ran, by threads where it was to, and then the file for the rejected records couldn't be written
pub record HasLost (j : Job OpState) (threads : Bool) (rejects : Option (List ℕ)) (before now : Outside) (name : List ℕ) (count : ℕ) : Type 0 where
  pub ending : Ending
  pub ran : HasRun j (streams_of before now) ending
  pub reading : now.input_faults ≡ stop_count before.input_faults ending.stop
  pub rejected : count ≡ ending.report.rejected
  pub named : rejects ≡ Some name
  pub others : KeepsOthers before.told now.told name
  pub work : threads ≡ true → RanByThreads j (records_of j (streams_of before now) ran.got) before now

-- the network ran, by threads where it was to, and then memory ran out while the rejected records were stored
pub record HasRunOut (j : Job OpState) (threads : Bool) (rejects : Option (List ℕ)) (before now : Outside) : Type 0 where
  pub ending : Ending
  pub ran : HasRun j (streams_of before now) ending
  pub reading : now.input_faults ≡ stop_count before.input_faults ending.stop
  pub kept : KeepsBut rejects before.told now.told
  pub work : threads ≡ true → RanByThreads j (records_of j (streams_of before now) ran.got) before now

-- how the run of a network ends, which has no other causes than these
abbrev pub Ran : Job OpState → Bool → Option (List ℕ) → Outside → Outside → Result ℕ Fault → Type 0
Ran j threads rejects before now (Err NoSweep) =
    IsUntouched (streams_of before now) × KeepsAll before.told now.told
Ran j threads rejects before now (Ok n) = HasStored j threads rejects before now stop.End n
Ran j threads rejects before now (Err (Read n)) = HasStored j threads rejects before now stop.Read n
Ran j threads rejects before now (Err (Line fault n)) = HasStored j threads rejects before now (stop.Line fault) n
Ran j threads rejects before now (Err (Rejects name n)) = HasLost j threads rejects before now name n
Ran j threads rejects before now (Err Refused) =
    (threads ≡ true) × IsUntouched (streams_of before now) × KeepsAll before.told now.told
Ran j threads rejects before now (Err (Tasks m)) =
    (m ≡ j.tasks) × IsOverrun j (streams_of before now) × KeepsAll before.told now.told
Ran j threads rejects before now (Err Write) =
    IsCutShort j (streams_of before now) halt.Write × KeepsAll before.told now.told
Ran j threads rejects before now (Err NoMemory) =
    (IsCutShort j (streams_of before now) halt.NoMemory × KeepsAll before.told now.told)
    ⊎ HasRunOut j threads rejects before now
Ran j threads rejects before now (Err _) = ⊥

-- `run` answers as the run of its network ends, and as the words allow
abbrev pub RunDone : ℕ → Way → Option (List ℕ) → Tree OpState → Outside → Outside → Result ℕ Fault → Type 0
RunDone tasks way rejects t before now answer =
    AllowedBy way t answer × Ran (run_job t tasks rejects) (by_threads way) rejects before now answer
