-- How a network answered, from what its run by threads ensures.
use Rattle.std.proofs.Common.{◌≡◌, ℕ, ◌+◌, List, length, Option, subst}
use Rattle.std.specs.Prelude.{Bool, true, is_some, Result, Ok, Err, IfOk, OnOk}
use Rattle.ff_rec.specs.Lines.{Rec}
use Rattle.ff_io.specs.Files.{Holdings}
use Rattle.ff_net.specs.Counts.{units}
use Rattle.ff_net.specs.Tree.{Tree}
use Rattle.ff_net.specs.declared.net.Version.{Version}
use Rattle.ff_ops.specs.Operation.{OpState, op_node}
use Rattle.ff_spawn.specs.Counts.{RoseBy}
use Rattle.ff_stream.specs.Endings.{Told}
use Rattle.ff_stream.specs.Jobs.{Job, job}
use Rattle.ff_stream.specs.declared.ending.Ending.{Ending}
use Rattle.ff_engine.specs.Runs.{NetRan}
use Rattle.ff_engine.specs.declared.fault.NetFault.{NetFault}
use Rattle.ff_engine.specs.declared.fault.NetFault.TheVariants as net
use Rattle.ff_call.specs.Outside.{Outside}
use Rattle.ff_call.specs.Texts.{version}
use Rattle.ff_call_run.specs.Finishing.{Answered}
use Rattle.ff_call_run.specs.Running.{run_job, streams_of}

-- the files have no part in it
pub Answered-files : (j : Job OpState) (threads : Bool) (before now : Outside) (told : Option Holdings) (n : ℕ) (answer : Result Ending NetFault)
    → Answered j threads before (record now { told = told; files_faults = n }) answer → Answered j threads before now answer
Answered-files j threads before now told n (Ok ending) r = record { run = r.run; told = λ by. record { starts = (r.told by).starts; worked = (r.told by).worked } }
Answered-files j threads before now told n (Err net.Refused) r = r
Answered-files j threads before now told n (Err (net.Run fault)) r = r

-- a run by threads, with what it tells of them whatever wraps may have
pub Answered-threads : (t : Tree OpState) (v : Version) (keep : Bool) (tasks : ℕ) (threads : Bool) (before now : Outside) (answer : Result Ending NetFault)
    → NetRan (job op_node t v tasks keep) (streams_of before now) answer
    → IfOk answer (λ ending. Told (job op_node t v tasks keep) (streams_of before now)
    (λ (xs : List Rec). RoseBy (units t + length xs) before.worked now.worked) ending)
    → OnOk answer (RoseBy (units t) before.starts now.starts) → threads ≡ true → Answered (job op_node t v tasks keep) threads before now answer
Answered-threads t v keep tasks threads before now (Ok ending) ran work starts is =
    record { run = work.run; told = λ by. record { starts = starts; worked = work.told } }
Answered-threads t v keep tasks threads before now (Err net.Refused) ran work starts is = (is, ran)
Answered-threads t v keep tasks threads before now (Err (net.Run fault)) ran work starts is = ran

-- the version and what is kept, by another name
pub Answered-job : (t : Tree OpState) (v : Version) (keep : Bool) (tasks : ℕ) (rejects : Option (List ℕ)) (threads : Bool) (before now : Outside) (answer : Result Ending NetFault)
    → v ≡ version → keep ≡ is_some rejects → Answered (job op_node t v tasks keep) threads before now answer
    → Answered (run_job t tasks rejects) threads before now answer
Answered-job t v keep tasks rejects threads before now answer same kept r =
    subst (λ (w : Version). Answered (job op_node t w tasks (is_some rejects)) threads before now answer) same
    (subst (λ (k : Bool). Answered (job op_node t v tasks k) threads before now answer) kept r)
