-- The units of a network's plan, which ran over edges by number.
use Rattle.std.specs.Prelude.{◌≡◌, ℕ, ◌<◌, Bool, true, false, List, [], ◌∷◌, ◌++◌, map, length, sum_by}
use Rattle.std.specs.List.{flat_map}
use Rattle.ff_rec.specs.Lines.{Rec}
use Rattle.ff_rec.specs.Streams.{carried, closed}
use Rattle.ff_rec.specs.Weights.{Same}
use Rattle.ff_node.specs.Behaviour.{Behaviour, node_rejected}
use Rattle.ff_node.specs.Comb.{comb_node, running}
use Rattle.ff_node.specs.Runs.{Message}
use Rattle.ff_node.specs.Sends.{counted}
use Rattle.ff_net.specs.Counts.{edges}
use Rattle.ff_net.specs.Meaning.{mean_rejected, mean_rejected_count, Answers}
use Rattle.ff_net.specs.Nodes.{nodes_in}
use Rattle.ff_net.specs.Tree.{Tree}
use Rattle.ff_plan.specs.LogLaws.{EachLogLaw, AllOnce}
use Rattle.ff_plan.specs.Plans.{rows_of}
use Rattle.ff_plan.specs.Rows.{Row}
use Rattle.ff_unit.specs.Units.{Doing, Ran}
use Rattle.ff_steps.specs.NetUnits.{NetState, net_does, any_over, log_of_net}
use Rattle.ff_steps.specs.PlanUnits.{opened_units}

-- each unit is reached by its own steps, which took what was got from the edges of its ins and put what was put on those of its outs
abbrev pub RanAlong : {U : Type 0} → Doing U → (ℕ → List Message) → (ℕ → List Message) → List Row → List U → Type 0
RanAlong d got put [] [] = Unit {0}
RanAlong d got put [] (u ∷ units) = ⊥
RanAlong d got put (row ∷ rows) [] = ⊥
RanAlong d got put (row ∷ rows) (u ∷ units) = Ran d u (map got row.ins) (map put row.outs) × RanAlong d got put rows units

-- the units of a network of which a wrap may have `m` tasks, with what was got from each edge of its plan and what was put on it
pub record RanOver {N : Type 0} (b : Behaviour N) (m : ℕ) (keep : Bool) (t : Tree N) (units : List (NetState N)) (got put : ℕ → List Message) : Type 0 where
  -- what they were before their first steps
  pub made : map (net_does b).opening units ≡ opened_units b m keep t
  -- what was got is the first of what was put
  pub first : (e : ℕ) → (rest : List Message) × (put e ≡ got e ++ rest)
  pub ran : RanAlong (net_does b) got put (rows_of t) units

-- more tasks came to some master than the limit allows
abbrev pub IsOver : {N : Type 0} → List (NetState N) → Type 0
IsOver units = any_over units ≡ true

-- all units have ended with their ins, and no master is over its limit: the last edge carries an answer, and they rejected what the network rejects
pub record HasAnswered {N : Type 0} (b : Behaviour N) (m : ℕ) (keep : Bool) (t : Tree N) (xs : List Rec) (units : List (NetState N)) (put : ℕ → List Message) : Type 0 where
  pub ys : List Rec
  pub carries : put 1 ≡ closed (carried ys)
  pub answers : Answers b m t xs ys
  pub number : counted (sum_by (net_does b).rejects units) ≡ mean_rejected_count b m t xs
  -- those taken out with those held, where they are kept; a unit alone has them in their order
  pub kept : keep ≡ true → Same (flat_map (net_does b).taken units ++ flat_map (net_does b).kept units) (mean_rejected b m t xs)
  pub kept_of_one : keep ≡ true → length units ≡ 1
      → flat_map (net_does b).taken units ++ flat_map (net_does b).kept units ≡ node_rejected (comb_node b) (running (map b.opening (nodes_in t))) xs
  pub none : keep ≡ false → flat_map (net_does b).kept units ≡ []

-- the logs of these units are right, by what was put on the edges of their network's plan; and where no master is over its limit, each task, fed in or
-- spawned, was done once
pub record LogsAreRight {N : Type 0} (b : Behaviour N) (m : ℕ) (t : Tree N) (units : List (NetState N)) (put : ℕ → List Message) : Type 0 where
  -- the messages on each edge before its Eos
  pub lists : ℕ → List Message
  pub carries : (e : ℕ) → e < edges t → put e ≡ closed (lists e)
  pub each : EachLogLaw b m t lists (map log_of_net units)
  pub once : any_over units ≡ false → AllOnce b m t lists (map log_of_net units)
