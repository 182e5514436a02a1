-- The threads of a network before they are started.
use Rattle.std.specs.Prelude.{◌≡◌, ℕ, ◌≤◌, Bool, List, [], length, map, All}
use Rattle.ff_node.specs.Behaviour.{Behaviour}
use Rattle.ff_net.specs.Forms.{has_wrap}
use Rattle.ff_net.specs.Tree.{Tree}
use Rattle.ff_plan.specs.Plans.{rows_of}
use Rattle.ff_steps.specs.NetUnits.{net_does}
use Rattle.ff_steps.specs.PlanUnits.{opened_units}
use Rattle.ff_engine.specs.Callers.{CallerState}
use Rattle.ff_engine.specs.Jobs.{JobState, IsFresh, RingSize}
use Rattle.ff_engine.specs.Lines.{IsWired, Linked}
use Rattle.ff_engine.specs.Networks.{UnitOf}
use Rattle.ff_engine.specs.RingSizes.{plan_size, AreSized}

-- there are jobs of the network's units over rings for `cap` messages each, and for one where records are handed out on demand
pub record RanOverRings {N : Type 0} (b : Behaviour N) (limit : ℕ) (keep : Bool) (net : Tree N) (cap : ℕ) : Type 0 where
  pub jobs : List (JobState (UnitOf N))
  pub units_are : map (λ job. job.unit) jobs ≡ opened_units b limit keep net
  pub rows_are : map (λ job. job.row) jobs ≡ rows_of net
  pub sizes : AreSized (plan_size net cap) jobs

-- a job for each unit of the network, none of which was started, between ends at which nothing happened, where text is held if a
-- wrap stands in it, over rings for `cap` messages each, but for one where records are handed out on demand; with room for the jobs while they run, for their units, and for the ends of all edges
pub record IsPrepared {N : Type 0} (b : Behaviour N) (limit : ℕ) (keep : Bool) (net : Tree N) (cap : ℕ) (first : RingSize) (c : CallerState) (jobs : List (JobState (UnitOf N)))
    (units : List (UnitOf N)) (unit_room : ℕ) (running : List (JobState (UnitOf N))) (room ins outs : ℕ) : Type 0 where
  pub put : c.put ≡ []
  pub got : c.got ≡ []
  pub text : c.text ≡ []
  pub holds : c.holds ≡ has_wrap net
  pub linked : Linked c.writes jobs c.reads
  pub units_are : map (λ job. job.unit) jobs ≡ opened_units b limit keep net
  pub rows_are : map (λ job. job.row) jobs ≡ rows_of net
  pub first_is : first ≡ plan_size net cap 0
  pub sizes : AreSized (plan_size net cap) jobs
  pub wired : IsWired (map (λ job. job.row) jobs) ins
  pub places : outs ≡ ins
  pub fresh : All (λ job. IsFresh (net_does b) job) jobs
  pub empty : units ≡ []
  pub roomy : length jobs ≤ unit_room
  pub none : running ≡ []
  pub many : length jobs ≤ room
