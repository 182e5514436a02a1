-- What the logs of masters say in a whole run: every task, fed in or spawned, was done once, and none remains.
use Rattle.std.specs.Prelude.{◌≡◌, ℕ, suc, ◌<◌, List, [], ◌∷◌, ◌++◌, map}
use Rattle.ff_rec.specs.Lines.{Rec}
use Rattle.ff_rec.specs.Streams.{at, carried, items}
use Rattle.ff_rec.specs.Weights.{Same}
use Rattle.ff_node.specs.Behaviour.{Behaviour}
use Rattle.ff_node.specs.Runs.{Message}
use Rattle.ff_net.specs.declared.net.Test.{Test}
use Rattle.ff_net.specs.Levels.{IsOver, levels, results}
use Rattle.ff_net.specs.Logs.{Event, fed, given, given_to, got_from, came, came_out, IsLegal, IsDone, IsOverLimit}
use Rattle.ff_net.specs.Meaning.{mean}
use Rattle.ff_net.specs.Tree.{Tree, Wrap}
use Rattle.ff_plan.specs.declared.kind.UnitKind.{UnitKind}
use Rattle.ff_plan.specs.declared.kind.UnitKind.TheVariants.{Master}
use Rattle.ff_plan.specs.Histories.{EachUnit, IsHistory, SomeOver}
use Rattle.ff_plan.specs.Laying.{units_of}

-- what the worker of a wrap sends for this task
abbrev pub answer_for : {N : Type 0} → Behaviour N → ℕ → Tree N → Rec → List Rec
answer_for b m w t = mean b m w (t ∷ [])

-- a worker's answers so far are those that `send` has for the tasks it was given, in their order
pub record IsSound (n : ℕ) (send : Rec → List Rec) (log : List Event) : Type 0 where
  pub by : (w : ℕ) → w < n → (more : List (List Rec)) × (map send (given_to w log) ≡ got_from w log ++ more)

-- a log by which each task was done once, and none remains: `xs` is what was fed in, and `last` what stands on the last out
pub record EachTaskOnce {N : Type 0} (b : Behaviour N) (m n : ℕ) (w : Tree N) (p : Test) (log : List Event) (xs : List Rec) (last : List Message) : Type 0 where
  pub done : IsDone n m p log
  pub fed_in : fed log ≡ xs
  -- the tasks that came, fed in or spawned, are those that were given, each as often, and they are the records of all levels
  pub given_once : Same (came p log) (given log)
  pub tasks : Same (levels (mean b m w) p (suc m) xs) (given log)
  -- each worker answered what it was given, each task once
  pub answered : (j : ℕ) → j < n → got_from j log ≡ map (answer_for b m w) (given_to j log)
  -- the last out carries what of the answers goes out, and these are the results
  pub carries : last ≡ carried (came_out p log)
  pub results : Same (results (mean b m w) p m xs) (items last)

-- what the log of a master says that was fed these records: it is legal and sound, it is over its limit exactly where the records that go round
-- are, and else each task was done once
pub record LogLaw {N : Type 0} (b : Behaviour N) (m n : ℕ) (w : Tree N) (p : Test) (log : List Event) (xs : List Rec) (last : List Message) : Type 0 where
  pub legal : IsLegal n m p log
  pub sound : IsSound n (answer_for b m w) log
  pub over : IsOverLimit m p log → IsOver (mean b m w) p m xs
  pub past : IsOver (mean b m w) p m xs → IsOverLimit m p log
  pub once : ¬ IsOverLimit m p log → EachTaskOnce b m n w p log xs last

-- so it is for the log of this unit, if it is a master on whose first in records alone came; no other unit has a log
abbrev pub LogLawAt : {N : Type 0} → Behaviour N → ℕ → UnitKind → Tree N → List Event → List (List Message) → List (List Message) → Type 0
LogLawAt b m Master (Wrap n w p) log ins outs = (xs : List Rec) → at ins 0 ≡ carried xs → LogLaw b m n w p log xs (at outs n)
LogLawAt b m _ t log ins outs = Unit {0}

-- if this unit is a master, records alone came on its first in, and each task was done once
abbrev pub OnceAt : {N : Type 0} → Behaviour N → ℕ → UnitKind → Tree N → List Event → List (List Message) → List (List Message) → Type 0
OnceAt b m Master (Wrap n w p) log ins outs =
    (xs : List Rec) × (at ins 0 ≡ carried xs) × LogLaw b m n w p log xs (at outs n) × EachTaskOnce b m n w p log xs (at outs n)
OnceAt b m _ t log ins outs = Unit {0}

-- the logs of all masters of a network's plan, with these lists on its edges
abbrev pub EachLogLaw : {N : Type 0} → Behaviour N → ℕ → Tree N → (ℕ → List Message) → List (List Event) → Type 0
EachLogLaw b m t edge logs = EachUnit (λ l log. LogLawAt b m l.row.kind l.net log (map edge l.row.ins) (map edge l.row.outs)) (units_of t) logs

abbrev pub AllOnce : {N : Type 0} → Behaviour N → ℕ → Tree N → (ℕ → List Message) → List (List Event) → Type 0
AllOnce b m t edge logs = EachUnit (λ l log. OnceAt b m l.row.kind l.net log (map edge l.row.ins) (map edge l.row.outs)) (units_of t) logs

-- in every history of the plan the logs of all masters are so; and where no master is over its limit, by each of them each task was done once
abbrev pub LogLaws : {N : Type 0} → Behaviour N → ℕ → Tree N → Type 0
LogLaws {N} b m t = (edge : ℕ → List Message) (logs : List (List Event)) (xs : List Rec)
    → IsHistory b m (units_of t) edge logs → edge 0 ≡ carried xs
    → EachLogLaw b m t edge logs × ((SomeOver m (units_of t) logs → ⊥) → AllOnce b m t edge logs)
