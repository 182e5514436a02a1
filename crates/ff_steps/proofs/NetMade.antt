-- The core of a network, by the parts that its plan gives.
use Rattle.std.proofs.Common.{◌≡◌, ℕ, ◌<◌, ◌≤◌, Bool, true, false, if◌then◌else◌, List, length, get_or, sym, ap, ◌∙◌, subst, arith}
use Rattle.std.proofs.lemmas.List.{length-map, get_or-map}
use Rattle.ff_rec.specs.Lines.{Rec}
use Rattle.ff_node.specs.Behaviour.{Behaviour, KeepsKind}
use Rattle.ff_net.specs.Counts.{units, edges}
use Rattle.ff_net.specs.Good.{Good}
use Rattle.ff_net.specs.Limits.{most_units}
use Rattle.ff_net.specs.Tree.{Tree}
use Rattle.ff_net.specs.declared.net.Version.{Version}
use Rattle.ff_net.specs.declared.net.Version.TheVariants.{One, Two}
use Rattle.ff_plan.specs.declared.kind.Queue.TheVariants.{Ring}
use Rattle.ff_plan.specs.declared.layout.Edge.{Edge}
use Rattle.ff_plan.specs.Laying.{units_of}
use Rattle.ff_plan.specs.Plans.{rows_of, plan_of, edge_of, is_on_demand}
use Rattle.ff_plan.specs.Rows.{Laid, range}
use Rattle.ff_plan.proofs.LaidUnits.{length-rows_of}
use Rattle.ff_plan.specs.WiringLaws.{IsJoined}
use Rattle.ff_port.specs.Queues.{Queue}
use Rattle.ff_steps.specs.Core.{IsSound}
use Rattle.ff_steps.specs.NetCores.{edge_queues, port_rows, opened_core, opened_net, IsNetCore}
use Rattle.ff_steps.specs.NetUnits.{NetState, net_does}
use Rattle.ff_steps.specs.PlanUnits.{opened_unit, opened_units}
use Rattle.ff_steps.specs.Wiring.{Row}
use Rattle.ff_steps.proofs.Shapes.{length-range}
use Rattle.ff_steps.proofs.NetOpened.{AreEmpty-queues, IsSound-opened, IsNetCore-opened}

-- each edge of a plan has room
pub some-cap : {N : Type 0} (t : Tree N) (cap : ℕ) → 1 ≤ cap → (edges : List Edge) → edges ≡ (plan_of t cap Ring).edges
    → (k : ℕ) (d : Edge) → k < length edges → 1 ≤ (get_or edges k d).cap
some-cap t cap some es are k d low = subst (λ (e : Edge). 1 ≤ e.cap) (sym at) (by (is_on_demand (rows_of t) (get_or (range 0 (edges t)) k 0)))
  where
    low' : k < length (range 0 (edges t))
    low' = omega (arith, low, ap length are, length-map (range 0 (edges t)) (edge_of (rows_of t) cap Ring))

    at : get_or es k d ≡ edge_of (rows_of t) cap Ring (get_or (range 0 (edges t)) k 0)
    at = ap (λ l. get_or l k d) are ∙ get_or-map (edge_of (rows_of t) cap Ring) (range 0 (edges t)) k 0 d low'

    by : (on_demand : Bool) → 1 ≤ (if on_demand then 1 else cap)
    by true = omega arith
    by false = some

-- no version has too many units
few-units : (v : Version) → most_units v ≤ 65536
few-units One = omega arith
few-units Two = omega arith

module _ {N : Type 0} (b : Behaviour N) (m : ℕ) (keep : Bool) (t : Tree N) where
  pub few-opened_units : (v : Version) → units t ≤ most_units v → (us : List (NetState N)) → us ≡ opened_units b m keep t → length us ≤ 65536
  few-opened_units v within us are =
      omega (arith, few-units v, within, length-rows_of t, length-map (units_of t) (λ (l : Laid N). l.row), ap length are ∙ length-map (units_of t) (opened_unit b m keep))

  -- the core of parts that are those of a network
  pub opened_core-net : (cap : ℕ) (us : List (NetState N)) (rows : List Row) (queues : List (Queue Rec)) (input : List Rec)
      → us ≡ opened_units b m keep t → rows ≡ port_rows t → queues ≡ edge_queues (plan_of t cap Ring).edges
      → opened_core (net_does b) us rows queues input ≡ opened_net b m keep t cap input
  opened_core-net cap us rows queues input units_are rows_are queues_are =
      ap (λ x. opened_core (net_does b) x rows queues input) units_are
      ∙ ap (λ x. opened_core (net_does b) (opened_units b m keep t) x queues input) rows_are
      ∙ ap (λ x. opened_core (net_does b) (opened_units b m keep t) (port_rows t) x input) queues_are

  module _ (kind : KeepsKind b) (good : Good b t) (joined : IsJoined t) (cap : ℕ) (input : List Rec) where
    length-queues : length (edge_queues (plan_of t cap Ring).edges) ≡ edges t
    length-queues = length-map (plan_of t cap Ring).edges _ ∙ length-map (range 0 (edges t)) (edge_of (rows_of t) cap Ring) ∙ length-range 0 (edges t)

    pub IsSound-net : IsSound (net_does b) (opened_net b m keep t cap input)
    IsSound-net = IsSound-opened b kind m keep t good joined (edge_queues (plan_of t cap Ring).edges) (AreEmpty-queues (plan_of t cap Ring).edges) length-queues input

    pub IsNetCore-net : IsNetCore b m keep t (opened_net b m keep t cap input)
    IsNetCore-net = IsNetCore-opened b kind m keep t good joined (edge_queues (plan_of t cap Ring).edges) (AreEmpty-queues (plan_of t cap Ring).edges) length-queues input
