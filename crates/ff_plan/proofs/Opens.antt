-- Whole runs and runs that were cut short by one induction. It goes over the tree of a network, for the edges `i` and `o` that it
-- is laid between, and speaks of whole lists: which may stand on an edge as its reader sees it, and as its writer does.
use Rattle.std.specs.Prelude.{◌≡◌, ◌⊎◌, ℕ, List, [], ◌∷◌, ◌++◌}
use Rattle.ff_rec.specs.Lines.{Rec}
use Rattle.ff_rec.specs.Streams.{carried}
use Rattle.ff_rec.specs.Weights.{Same}
use Rattle.ff_node.specs.Behaviour.{Behaviour}
use Rattle.ff_node.specs.Runs.{Message}
use Rattle.ff_net.specs.Forms.{is_ordered}
use Rattle.ff_net.specs.Logs.{Event}
use Rattle.ff_net.specs.Meaning.{mean, mean_rejected, Fine, SameInOrder}
use Rattle.ff_net.specs.Tree.{Tree}
use Rattle.ff_plan.specs.declared.kind.UnitKind.{UnitKind}
use Rattle.ff_plan.specs.declared.kind.UnitKind.TheVariants.{Stage, DealRr, DealOd, DealBy, Merge, ODealRr, ODealOd, OMergeTurn, OMergePick, Master, Worker}
use Rattle.ff_plan.specs.Histories.{FitsUnit, EachUnit, all_rejected}
use Rattle.ff_plan.specs.Laying.{lay}
use Rattle.ff_plan.specs.Rows.{Laid}

-- how lists stand on the edges of a run
pub record View (N : Type 0) : Type 1 where
  -- which whole list the reader of an edge may see, and which its writer may give; the reader sees what the writer gives
  pub In : ℕ → List Message → Type 0
  pub Out : ℕ → List Message → Type 0
  pub link : (e : ℕ) (ms : List Message) → Out e ms → In e ms
  -- in a whole run there is one list for each edge
  pub Whole : Type 0
  pub edge : ℕ → List Message
  pub is_edge : Whole → (e : ℕ) (ms : List Message) → In e ms → ms ≡ edge e
  -- what is known of a master
  pub AtMaster : Laid N → List Event → Type 0
  -- of units with their logs: no master is over its limit, or some is, as far as that is spoken of
  pub Calm : List (Laid N) → List (List Event) → Type 0
  pub Burst : List (Laid N) → List (List Event) → Type 0
  pub calm_none : Calm [] []
  pub calm_unit : (l : Laid N) (log : List Event) (ls : List (Laid N)) (logs : List (List Event)) → (l.row.kind ≡ Master → ⊥) → Calm ls logs → Calm (l ∷ ls) (log ∷ logs)
  pub calm_both : (ls : List (Laid N)) (logs : List (List Event)) (ks : List (Laid N)) (kogs : List (List Event)) → EachUnit (λ l log. Unit {0}) ls logs → Calm ls logs → Calm ks kogs → Calm (ls ++ ks) (logs ++ kogs)
  pub burst_left : (ls : List (Laid N)) (logs : List (List Event)) (ks : List (Laid N)) (kogs : List (List Event)) → EachUnit (λ l log. Unit {0}) ls logs → Burst ls logs → Burst (ls ++ ks) (logs ++ kogs)
  pub burst_right : (ls : List (Laid N)) (logs : List (List Event)) (ks : List (Laid N)) (kogs : List (List Event)) → EachUnit (λ l log. Unit {0}) ls logs → Burst ks kogs → Burst (ls ++ ks) (logs ++ kogs)

-- each edge has such a list
abbrev pub AllOn : (ℕ → List Message → Type 0) → List ℕ → List (List Message) → Type 0
AllOn On [] [] = Unit {0}
AllOn On [] (ms ∷ mss) = ⊥
AllOn On (e ∷ es) [] = ⊥
AllOn On (e ∷ es) (ms ∷ mss) = On e ms × AllOn On es mss

-- for all ins that may stand there, there are outs that may stand there so that the unit fits them
pub record IsOpen {N : Type 0} (b : Behaviour N) (m : ℕ) (v : View N) (l : Laid N) (log : List Event) : Type 0 where
  pub by : (ins : List (List Message)) → AllOn v.In l.row.ins ins → (outs : List (List Message)) × AllOn v.Out l.row.outs outs × FitsUnit b m l log ins outs

-- what is known of each unit
abbrev pub KnownOf : {N : Type 0} → Behaviour N → ℕ → View N → UnitKind → Laid N → List Event → Type 0
KnownOf b m v Stage l log = IsOpen b m v l log
KnownOf b m v DealRr l log = IsOpen b m v l log
KnownOf b m v DealOd l log = IsOpen b m v l log
KnownOf b m v (DealBy f) l log = IsOpen b m v l log
KnownOf b m v Merge l log = IsOpen b m v l log
KnownOf b m v ODealRr l log = IsOpen b m v l log
KnownOf b m v ODealOd l log = IsOpen b m v l log
KnownOf b m v OMergeTurn l log = IsOpen b m v l log
KnownOf b m v OMergePick l log = IsOpen b m v l log
KnownOf b m v Master l log = v.AtMaster l log
KnownOf b m v Worker l log = IsOpen b m v l log

abbrev pub Known : {N : Type 0} → Behaviour N → ℕ → View N → List (Laid N) → List (List Event) → Type 0
Known b m v ls logs = EachUnit (λ l log. KnownOf b m v l.row.kind l log) ls logs

-- the edge behind a network may carry an answer of it; in a whole run its units rejected what it rejects
pub record HasAnswer {N : Type 0} (b : Behaviour N) (m : ℕ) (v : View N) (t : Tree N) (ls : List (Laid N)) (logs : List (List Event)) (o : ℕ) (xs : List Rec) : Type 0 where
  pub fine : Fine b m t xs
  pub ys : List Rec
  pub out : v.Out o (carried ys)
  pub same : SameInOrder (is_ordered t) (mean b m t xs) ys
  pub rejects : v.Whole → Same (mean_rejected b m t xs) (all_rejected b ls v.edge)
  pub calm : v.Calm ls logs

-- or some master is over its limit, as the network's meaning is
abbrev pub Outcome : {N : Type 0} → Behaviour N → ℕ → View N → Tree N → List (Laid N) → List (List Event) → ℕ → List Rec → Type 0
Outcome b m v t ls logs o xs = HasAnswer b m v t ls logs o xs ⊎ ((¬ Fine b m t xs) × v.Burst ls logs)

-- the law of one network, wherever it is laid
abbrev pub LawOf : {N : Type 0} → Behaviour N → ℕ → View N → Tree N → Type 0
LawOf {N} b m v t = (at : List ℕ) (i o e : ℕ) (logs : List (List Event)) (xs : List Rec)
    → Known b m v (lay at t i o e) logs → v.In i (carried xs) → Outcome b m v t (lay at t i o e) logs o xs
