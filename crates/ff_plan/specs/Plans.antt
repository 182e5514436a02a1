-- The plan of a network.
use Rattle.std.specs.Prelude.{ℕ, suc, ◌==◌, if◌then◌else◌, Bool, false, ◌||◌, List, [], ◌∷◌, map}
use Rattle.std.specs.List.{list_any}
use Rattle.ff_net.specs.Counts.{edges}
use Rattle.ff_net.specs.Tree.{Tree}
use Rattle.ff_plan.specs.declared.kind.Party.{Party}
use Rattle.ff_plan.specs.declared.kind.Party.TheVariants.{Caller, Unit as OfUnit}
use Rattle.ff_plan.specs.declared.kind.Queue.{Queue}
use Rattle.ff_plan.specs.declared.kind.Queue.TheVariants.{Ring}
use Rattle.ff_plan.specs.declared.kind.UnitKind.{UnitKind}
use Rattle.ff_plan.specs.declared.kind.UnitKind.TheVariants.{DealOd, ODealOd, Stage, DealRr, DealBy, Merge, ODealRr, OMergeTurn, OMergePick, Master, Worker}
use Rattle.ff_plan.specs.declared.layout.Edge.{Edge}
use Rattle.ff_plan.specs.Laying.{units_of}
use Rattle.ff_plan.specs.Rows.{Row, range}

-- all units and all edges, by their numbers
pub record Plan : Type 0 where
  pub units : List Row
  pub edges : List Edge

-- whether edge `e` is among these
abbrev pub is_among : ℕ → List ℕ → Bool
is_among e [] = false
is_among e (k ∷ ks) = (e == k) || is_among e ks

-- the unit that has edge `e` on this side, the first of the rows being unit `k`; the caller where none has
abbrev pub party_at : (Row → List ℕ) → ℕ → ℕ → List Row → Party
party_at side e k [] = Caller
party_at side e k (row ∷ rows) = if is_among e (side row) then OfUnit k else party_at side e (suc k) rows

-- all but the last
abbrev pub but_last : List ℕ → List ℕ
but_last [] = []
but_last (e ∷ []) = []
but_last (e ∷ f ∷ es) = e ∷ but_last (f ∷ es)

-- the outs on which a unit hands records out on demand: not the last one of an ordered deal, on which it tells its picks
abbrev pub on_demand : UnitKind → List ℕ → List ℕ
on_demand DealOd outs = outs
on_demand ODealOd outs = but_last outs
on_demand Stage outs = []
on_demand DealRr outs = []
on_demand (DealBy f) outs = []
on_demand Merge outs = []
on_demand ODealRr outs = []
on_demand OMergeTurn outs = []
on_demand OMergePick outs = []
on_demand Master outs = []
on_demand Worker outs = []

-- whether records are handed out on edge `e` on demand
abbrev pub is_on_demand : List Row → ℕ → Bool
is_on_demand rows e = list_any (λ row. is_among e (on_demand row.kind row.outs)) rows

-- edge `e` between these units: a ring of one slot, where records are handed out on it on demand, and else a queue as is wanted
abbrev pub edge_of : List Row → ℕ → Queue → ℕ → Edge
edge_of rows cap queue e = record {
  writer = party_at (λ row. row.outs) e 0 rows;
  reader = party_at (λ row. row.ins) e 0 rows;
  cap = if is_on_demand rows e then 1 else cap;
  queue = if is_on_demand rows e then Ring else queue;
}

-- the rows of a network's units
abbrev pub rows_of : {N : Type 0} → Tree N → List Row
rows_of t = map (λ l. l.row) (units_of t)

-- the plan of a network
abbrev pub plan_of : {N : Type 0} → Tree N → ℕ → Queue → Plan
plan_of t cap queue = record {
  units = rows_of t;
  edges = map (edge_of (rows_of t) cap queue) (range 0 (edges t));
}
