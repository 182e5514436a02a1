-- The law that makes every run of a plan right, and what holds of runs that were cut short.
use Rattle.std.specs.Prelude.{◌≡◌, ℕ, List, ◌++◌}
use Rattle.ff_rec.specs.Lines.{Rec}
use Rattle.ff_rec.specs.Streams.{carried, items, unaborted, GoesOn}
use Rattle.ff_rec.specs.Weights.{Same}
use Rattle.ff_node.specs.Behaviour.{Behaviour}
use Rattle.ff_node.specs.Runs.{Message}
use Rattle.ff_net.specs.Logs.{Event}
use Rattle.ff_net.specs.Meaning.{mean_rejected, Fine, Answers}
use Rattle.ff_net.specs.Tree.{Tree}
use Rattle.ff_plan.specs.Histories.{IsHistory, IsPartial, SomeOver, all_rejected}
use Rattle.ff_plan.specs.Laying.{units_of}

-- edge 1 carries an answer, and the units rejected together what the network rejects
pub record Answered {N : Type 0} (b : Behaviour N) (m : ℕ) (t : Tree N) (xs : List Rec) (edge : ℕ → List Message) : Type 0 where
  pub ys : List Rec
  pub carries : edge 1 ≡ carried ys
  pub answers : Answers b m t xs ys
  pub rejects : Same (mean_rejected b m t xs) (all_rejected b (units_of t) edge)

-- every history of a network's plan with these records on edge 0 gives an answer for them; but where a master is over its limit, the network's
-- meaning is, and only there
abbrev pub WholeRuns : {N : Type 0} → Behaviour N → ℕ → Tree N → Type 0
WholeRuns {N} b m t = (edge : ℕ → List Message) (logs : List (List Event)) (xs : List Rec)
    → IsHistory b m (units_of t) edge logs → edge 0 ≡ carried xs
    → (SomeOver m (units_of t) logs → ¬ Fine b m t xs) × ((SomeOver m (units_of t) logs → ⊥) → Answered b m t xs edge)

-- the records on edge 1 are the first of an answer
pub record BeginsAnswer {N : Type 0} (b : Behaviour N) (m : ℕ) (t : Tree N) (xs : List Rec) (ys : List Rec) : Type 0 where
  pub all : List Rec
  pub answers : Answers b m t xs all
  pub rest : List Rec
  pub splits : all ≡ ys ++ rest

-- at each moment of a run, if no wrap is over its limit for these records: the records on edge 1 are the first of an answer
abbrev pub CutRuns : {N : Type 0} → Behaviour N → ℕ → Tree N → Type 0
CutRuns {N} b m t = (got put : ℕ → List Message) (logs : List (List Event)) (xs : List Rec)
    → IsPartial b m (units_of t) got put logs → GoesOn (unaborted (put 0)) (carried xs) → Fine b m t xs
    → BeginsAnswer b m t xs (items (put 1))
