-- The law on messages.
use Rattle.std.specs.Prelude.{◌≡◌, ℕ, ◌+◌, ◌≤◌, List, ◌++◌, length}
use Rattle.ff_rec.specs.Lines.{Rec}
use Rattle.ff_rec.specs.Streams.{carried, unaborted, GoesOn, IsOpen}
use Rattle.ff_rec.specs.Weights.{weigh}
use Rattle.ff_node.specs.Behaviour.{Behaviour}
use Rattle.ff_node.specs.Runs.{Message}
use Rattle.ff_net.specs.Counts.{edges}
use Rattle.ff_net.specs.Logs.{Event}
use Rattle.ff_net.specs.Tree.{Tree}
use Rattle.ff_plan.specs.Histories.{IsHistory, IsPartial}
use Rattle.ff_plan.specs.Laying.{units_of}
use Rattle.ff_plan.specs.Rows.{range}
use Rattle.ff_plan.specs.Traffic.{messages}

-- in every history the messages on all edges, each with its Eos, are at most so many
abbrev pub Traffic : {N : Type 0} → Behaviour N → ℕ → Tree N → Type 0
Traffic {N} b m t = (edge : ℕ → List Message) (logs : List (List Event)) (xs : List Rec)
    → IsHistory b m (units_of t) edge logs → edge 0 ≡ carried xs
    → weigh (λ e. length (edge e) + 1) (range 0 (edges t)) ≤ messages b m t xs

-- at most one message stands behind open ones
pub record EndsOnce (ms : List Message) : Type 0 where
  pub front : List Message
  pub back : List Message
  pub is : ms ≡ front ++ back
  pub inner : IsOpen front
  pub few : length back ≤ 1

-- and at each moment of a run those that were put are
abbrev pub TrafficSoFar : {N : Type 0} → Behaviour N → ℕ → Tree N → Type 0
TrafficSoFar {N} b m t = (got put : ℕ → List Message) (logs : List (List Event)) (xs : List Rec)
    → IsPartial b m (units_of t) got put logs → GoesOn (unaborted (put 0)) (carried xs) → ((e : ℕ) → EndsOnce (put e))
    → weigh (λ e. length (put e)) (range 0 (edges t)) ≤ messages b m t xs
