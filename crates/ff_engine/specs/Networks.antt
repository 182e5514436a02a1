-- The jobs that stand for a network, and how far a run by threads has come.
use Rattle.std.specs.Prelude.{◌≡◌, ℕ, ◌+◌, ◌≤◌, true, false, List, [], ◌++◌, map, length}
use Rattle.ff_rec.specs.Lines.{Rec, text}
use Rattle.ff_rec.specs.Streams.{items, carried, closed}
use Rattle.ff_node.specs.Behaviour.{Behaviour, KeepsKind}
use Rattle.ff_node.specs.Classes.{ClassLaw}
use Rattle.ff_node.specs.Runs.{Message}
use Rattle.ff_net.specs.Counts.{units}
use Rattle.ff_net.specs.Forms.{has_wrap}
use Rattle.ff_net.specs.Good.{Good}
use Rattle.ff_net.specs.Tree.{Tree}
use Rattle.ff_plan.specs.LogLaws.{LogLaws}
use Rattle.ff_plan.specs.PlanLaws.{CutRuns, WholeRuns}
use Rattle.ff_plan.specs.Plans.{rows_of}
use Rattle.ff_spawn.specs.Counts.{RoseBy}
use Rattle.ff_steps.specs.NetUnits.{NetState, any_over}
use Rattle.ff_steps.specs.OverEdges.{RanOver, LogsAreRight}
use Rattle.ff_steps.specs.PlanUnits.{opened_units}
use Rattle.ff_stream.specs.Jobs.{Job}
use Rattle.ff_stream.specs.declared.fault.Halt.{Halt}
use Rattle.ff_stream.specs.declared.fault.Halt.TheVariants.{NoMemory}
use Rattle.ff_engine.specs.Callers.{CallerState, Shows}
use Rattle.ff_engine.specs.Jobs.{JobState}
use Rattle.ff_engine.specs.Lines.{Linked}

-- the state of a unit of the network
abbrev pub UnitOf : Type 0 → Type 0
UnitOf N = NetState N

-- the network keeps the rules, and the laws of its plan hold
pub record HasLaws {N : Type 0} (b : Behaviour N) (net : Tree N) : Type 0 where
  pub kind : KeepsKind b
  pub class : (o : N) → ClassLaw b o (b.class o)
  pub good : Good b net
  pub whole_runs : (m : ℕ) → WholeRuns b m net
  pub cut_runs : (m : ℕ) → CutRuns b m net
  pub log_laws : (m : ℕ) → LogLaws b m net

-- these jobs were made of the network of a run, by its plan
pub record AreJobsOf {N : Type 0} (b : Behaviour N) (j : Job N) (jobs : List (JobState (UnitOf N))) : Type 0 where
  pub does_is : j.does ≡ b
  pub laws : HasLaws b j.net
  pub units_are : map (λ job. job.unit) jobs ≡ opened_units b j.tasks j.keep j.net
  pub rows_are : map (λ job. job.row) jobs ≡ rows_of j.net

-- the records were put on the first ring, and these bytes were written of what came: none with a wrap, whose text is held
pub record HasFed {N : Type 0} (b : Behaviour N) (j : Job N) (c : CallerState) (jobs : List (JobState (UnitOf N))) (xs : List Rec) (front : List ℕ) : Type 0 where
  pub put : c.put ≡ carried xs
  pub linked : Linked c.writes jobs c.reads
  pub shows : Shows front c
  pub holds : c.holds ≡ has_wrap j.net
  pub waits : has_wrap j.net ≡ true → front ≡ []
  pub made : AreJobsOf b j jobs

-- it broke off at this halt, and of the text of what came these bytes were written: with a wrap for want of memory, and none
pub record HasStopped {N : Type 0} (b : Behaviour N) (j : Job N) (c : CallerState) (jobs : List (JobState (UnitOf N))) (halt : Halt) (xs : List Rec) (front : List ℕ) : Type 0 where
  pub put : c.put ≡ carried xs
  pub linked : Linked c.writes jobs c.reads
  pub back : List ℕ
  pub splits : text (items c.got) ≡ front ++ back
  pub waits : has_wrap j.net ≡ true → (front ≡ []) × (halt ≡ NoMemory)
  pub made : AreJobsOf b j jobs

-- the jobs handled each record and an end for each unit
abbrev pub WorkedThrough : {N : Type 0} → Job N → List Rec → ℕ → ℕ → Type 0
WorkedThrough j xs worked worked' = RoseBy (units j.net + length xs) worked worked'

-- the units of the network ran over the edges of its plan with these records on its first edge, and by the logs of its wraps each task, fed in or
-- spawned, was done once
pub record HasDoneTasks {N : Type 0} (b : Behaviour N) (j : Job N) (xs : List Rec) : Type 0 where
  pub units : List (UnitOf N)
  pub got : ℕ → List Message
  pub put : ℕ → List Message
  pub ran : RanOver b j.tasks j.keep j.net units got put
  pub fed : put 0 ≡ closed (carried xs)
  pub within : any_over units ≡ false
  pub logs : LogsAreRight b j.tasks j.net units put

-- joining the threads leaves the other counts
pub record JoinsOnly (refused refused' starts starts' worked worked' : ℕ) : Type 0 where
  pub refused_is : refused' ≡ refused
  pub starts_are : starts' ≡ starts
  pub worked_rises : worked ≤ worked'
