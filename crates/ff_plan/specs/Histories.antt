-- What went over the edges of a plan: whole lists that every unit fits, and such as were cut off.
use Rattle.std.specs.Prelude.{◌≡◌, ◌⊎◌, ℕ, ◌-◌, List, [], ◌∷◌, ◌++◌, map, length}
use Rattle.ff_rec.specs.Lines.{Rec}
use Rattle.ff_rec.specs.Streams.{at, items}
use Rattle.ff_node.specs.Behaviour.{Behaviour, node_rejected}
use Rattle.ff_node.specs.Comb.{Part, comb_node, running}
use Rattle.ff_node.specs.Fits.{FitsStage, FitsWorker, FitsStrictDeal, FitsFreeDeal, FitsKeyDeal, FitsMerge, FitsStrictODeal, FitsFreeODeal, FitsTurnMerge, FitsPickMerge}
use Rattle.ff_node.specs.Runs.{Message, BeginsToFit}
use Rattle.ff_net.specs.Logs.{Event, FitsMaster, BeginsMaster, IsOverLimit}
use Rattle.ff_net.specs.Nodes.{nodes_in}
use Rattle.ff_net.specs.Tree.{Tree, Leaf, Pipe, Comb, Farm, OFarm, A2a, Wrap}
use Rattle.ff_plan.specs.declared.kind.UnitKind.{UnitKind}
use Rattle.ff_plan.specs.declared.kind.UnitKind.TheVariants.{Stage, DealRr, DealOd, DealBy, Merge, ODealRr, ODealOd, OMergeTurn, OMergePick, Master, Worker}
use Rattle.ff_plan.specs.Rows.{Laid}

-- the nodes of a stage or a worker, which run as one, before their first record. `b` is what the nodes do
abbrev pub group_of : {N : Type 0} → Behaviour N → Tree N → List (Part N)
group_of b t = running (map b.opening (nodes_in t))

-- what the master of this form fits; no other form has one
abbrev pub FitsLog : {N : Type 0} → ℕ → Tree N → List Event → List (List Message) → List (List Message) → Type 0
FitsLog m (Leaf o) log ins outs = ⊥
FitsLog m (Pipe ts) log ins outs = ⊥
FitsLog m (Comb ts) log ins outs = ⊥
FitsLog m (Farm n s w) log ins outs = ⊥
FitsLog m (OFarm n s w) log ins outs = ⊥
FitsLog m (A2a n l r k t) log ins outs = ⊥
FitsLog m (Wrap n w p) log ins outs = FitsMaster n m p log ins outs

-- what a unit of this kind fits: `n` is how many ins it has, and `k` how many outs; a master fits them by its log
abbrev pub FitsKind : {N : Type 0} → Behaviour N → ℕ → UnitKind → Tree N → ℕ → ℕ → List Event → List (List Message) → List (List Message) → Type 0
FitsKind b m Stage t n k log ins outs = FitsStage (comb_node b) (group_of b t) ins outs
FitsKind b m DealRr t n k log ins outs = FitsStrictDeal k ins outs
FitsKind b m DealOd t n k log ins outs = FitsFreeDeal k ins outs
FitsKind b m (DealBy f) t n k log ins outs = FitsKeyDeal f k ins outs
FitsKind b m Merge t n k log ins outs = FitsMerge n ins outs
FitsKind b m ODealRr t n k log ins outs = FitsStrictODeal k ins outs
FitsKind b m ODealOd t n k log ins outs = FitsFreeODeal (k - 1) ins outs
FitsKind b m OMergeTurn t n k log ins outs = FitsTurnMerge n ins outs
FitsKind b m OMergePick t n k log ins outs = FitsPickMerge (n - 1) ins outs
FitsKind b m Master t n k log ins outs = FitsLog m t log ins outs
FitsKind b m Worker t n k log ins outs = FitsWorker (comb_node b) (group_of b t) ins outs

-- what a unit of a plan fits
abbrev pub FitsUnit : {N : Type 0} → Behaviour N → ℕ → Laid N → List Event → List (List Message) → List (List Message) → Type 0
FitsUnit b m l log ins outs = FitsKind b m l.row.kind l.net (length l.row.ins) (length l.row.outs) log ins outs

-- what a unit rejects for whole ins: only a node does
abbrev pub rejected_by : {N : Type 0} → Behaviour N → UnitKind → Tree N → List (List Message) → List Rec
rejected_by b Stage t ins = node_rejected (comb_node b) (group_of b t) (items (at ins 0))
rejected_by b DealRr t ins = []
rejected_by b DealOd t ins = []
rejected_by b (DealBy f) t ins = []
rejected_by b Merge t ins = []
rejected_by b ODealRr t ins = []
rejected_by b ODealOd t ins = []
rejected_by b OMergeTurn t ins = []
rejected_by b OMergePick t ins = []
rejected_by b Master t ins = []
rejected_by b Worker t ins = node_rejected (comb_node b) (group_of b t) (items (at ins 0))

-- each unit with its log is so
abbrev pub EachUnit : {N : Type 0} → (Laid N → List Event → Type 0) → List (Laid N) → List (List Event) → Type 0
EachUnit P [] [] = Unit {0}
EachUnit P [] (log ∷ logs) = ⊥
EachUnit P (l ∷ ls) [] = ⊥
EachUnit P (l ∷ ls) (log ∷ logs) = P l log × EachUnit P ls logs

-- the whole lists of all edges, before their Eos, and the logs of all units, of which only a master's says anything: each unit
-- fits the lists of its ins and outs
abbrev pub IsHistory : {N : Type 0} → Behaviour N → ℕ → List (Laid N) → (ℕ → List Message) → List (List Event) → Type 0
IsHistory b m ls edge logs = EachUnit (λ l log. FitsUnit b m l log (map edge l.row.ins) (map edge l.row.outs)) ls logs

-- what all units reject in a history, the first unit's before the second's
abbrev pub all_rejected : {N : Type 0} → Behaviour N → List (Laid N) → (ℕ → List Message) → List Rec
all_rejected b [] edge = []
all_rejected b (l ∷ ls) edge = rejected_by b l.row.kind l.net (map edge l.row.ins) ++ all_rejected b ls edge

-- the log of this unit is that of a master that is over its limit
abbrev pub IsOverAt : {N : Type 0} → ℕ → UnitKind → Tree N → List Event → Type 0
IsOverAt m Master (Wrap n w p) log = IsOverLimit m p log
IsOverAt m _ t log = ⊥

-- some master is over its limit
abbrev pub SomeOver : {N : Type 0} → ℕ → List (Laid N) → List (List Event) → Type 0
SomeOver m [] logs = ⊥
SomeOver m (l ∷ ls) [] = ⊥
SomeOver m (l ∷ ls) (log ∷ logs) = IsOverAt m l.row.kind l.net log ⊎ SomeOver m ls logs

-- a unit begins to fit what it took and put; a master does by its log
abbrev pub BeginsLog : {N : Type 0} → ℕ → Tree N → List Event → List (List Message) → List (List Message) → Type 0
BeginsLog m (Leaf o) log gots puts = ⊥
BeginsLog m (Pipe ts) log gots puts = ⊥
BeginsLog m (Comb ts) log gots puts = ⊥
BeginsLog m (Farm n s w) log gots puts = ⊥
BeginsLog m (OFarm n s w) log gots puts = ⊥
BeginsLog m (A2a n l r k t) log gots puts = ⊥
BeginsLog m (Wrap n w p) log gots puts = BeginsMaster n m p log gots puts

abbrev pub BeginsUnit : {N : Type 0} → Behaviour N → ℕ → Laid N → List Event → List (List Message) → List (List Message) → Type 0
BeginsUnit b m l log gots puts = BeginsKind l.row.kind
  where
    BeginsKind : UnitKind → Type 0
    BeginsKind Master = BeginsLog m l.net log gots puts
    BeginsKind kind = BeginsToFit (FitsUnit b m l log) gots puts

-- what was got from each edge and what was put on it, with every Abort, where what was got is the first of what was put; each unit
-- begins to fit what it got and put
pub record IsPartial {N : Type 0} (b : Behaviour N) (m : ℕ) (ls : List (Laid N)) (got put : ℕ → List Message) (logs : List (List Event)) : Type 0 where
  pub first : (e : ℕ) → (rest : List Message) × (put e ≡ got e ++ rest)
  pub begins : EachUnit (λ l log. BeginsUnit b m l log (map got l.row.ins) (map put l.row.outs)) ls logs
