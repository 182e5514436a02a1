-- Cores of the units of a network.
use Rattle.std.specs.Prelude.{◌≡◌, ◌≤◌, ℕ, Bool, false, List, map}
use Rattle.ff_rec.specs.Lines.{Rec}
use Rattle.ff_node.specs.Behaviour.{Behaviour}
use Rattle.ff_net.specs.Meaning.{Fine}
use Rattle.ff_net.specs.Tree.{Tree}
use Rattle.ff_plan.specs.declared.kind.Queue.TheVariants.{Ring}
use Rattle.ff_plan.specs.declared.layout.Edge.{Edge}
use Rattle.ff_plan.specs.PlanLaws.{BeginsAnswer}
use Rattle.ff_plan.specs.Plans.{rows_of, plan_of}
use Rattle.ff_plan.specs.Rows.{Row as PlanRow}
use Rattle.ff_port.specs.Queues.{Queue, empty_queue}
use Rattle.ff_unit.specs.Units.{Doing}
use Rattle.ff_steps.specs.Core.{CoreState, IsSound}
use Rattle.ff_steps.specs.NetUnits.{NetState, net_does, any_over}
use Rattle.ff_steps.specs.OverEdges.{IsOver}
use Rattle.ff_steps.specs.Parties.{opening_feeder, opening_drainer}
use Rattle.ff_steps.specs.PlanUnits.{opened_units}
use Rattle.ff_steps.specs.Wiring.{Row, all_rows}

-- the edges that a unit of a plan reads and those that it writes
abbrev pub port_row : PlanRow → Row
port_row row = record { ins = row.ins; outs = row.outs }

-- the rows of the units of a network's plan
abbrev pub port_rows : {N : Type 0} → Tree N → List Row
port_rows t = map port_row (rows_of t)

-- an empty queue for each edge, which holds as many messages as the edge
abbrev pub edge_queues : List Edge → List (Queue Rec)
edge_queues edges = map (λ e. empty_queue e.cap) edges

-- a core of these units before its first event
abbrev pub opened_core : {U : Type 0} → Doing U → List U → List Row → List (Queue Rec) → List Rec → CoreState U
opened_core d units rows edges input = record {
  made = map d.opening units;
  input = input;
  rows = all_rows rows;
  edges = edges;
  units = units;
  feeder = opening_feeder input;
  drainer = opening_drainer;
}

-- a core of the units of a network before its first event; a wrap may have `m` tasks
abbrev pub opened_net : {N : Type 0} → Behaviour N → ℕ → Bool → Tree N → ℕ → List Rec → CoreState (NetState N)
opened_net b m keep t cap input =
    opened_core (net_does b) (opened_units b m keep t) (port_rows t) (edge_queues (plan_of t cap Ring).edges) input

-- a core of the units of a network before its first event, whatever its queues hold
abbrev pub IsOpening : {N : Type 0} → Behaviour N → ℕ → Bool → Tree N → CoreState (NetState N) → Type 0
IsOpening b m keep t c = (cap : ℕ) × (1 ≤ cap) × (c ≡ opened_net b m keep t cap c.input)

-- the core was made of this network
pub record IsNetCore {N : Type 0} (b : Behaviour N) (m : ℕ) (keep : Bool) (t : Tree N) (c : CoreState (NetState N)) : Type 0 where
  pub made : c.made ≡ opened_units b m keep t
  pub rows : c.rows ≡ all_rows (port_rows t)

-- a good moment of the core of a network: each party is reached by its own steps, and, where no wrap is over its limit for this input, the
-- output is the first of an answer
pub record IsGood {N : Type 0} (b : Behaviour N) (m : ℕ) (t : Tree N) (c : CoreState (NetState N)) : Type 0 where
  pub sound : IsSound (net_does b) c
  pub begins : Fine b m t c.input → BeginsAnswer b m t c.input c.drainer.output

-- some unit is over its limit exactly where the network's meaning is
pub record TellsOver {N : Type 0} (b : Behaviour N) (m : ℕ) (t : Tree N) (xs : List Rec) (units : List (NetState N)) : Type 0 where
  pub over : IsOver units → ¬ Fine b m t xs
  pub fine : any_over units ≡ false → Fine b m t xs
