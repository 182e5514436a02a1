-- The printed form of a plan: a line for each unit.
use Rattle.std.specs.Prelude.{ℕ, ◌+◌, List, [], ◌∷◌, ◌++◌, Option, None, Some, codes, pos}
use Rattle.ff_rec.specs.Number.{printed}
use Rattle.ff_ops.specs.Operation.{OpState}
use Rattle.ff_net.specs.At.{net_at}
use Rattle.ff_net.specs.Tree.{Tree}
use Rattle.ff_plan.specs.declared.kind.UnitKind.{UnitKind}
use Rattle.ff_plan.specs.declared.kind.UnitKind.TheVariants.{Stage, DealRr, DealOd, DealBy, Merge, ODealRr, ODealOd, OMergeTurn, OMergePick, Master, Worker}
use Rattle.ff_plan.specs.Rows.{Row}
use Rattle.ff_text.specs.NetPrinting.{printed_net}

-- the word of a kind
abbrev pub kind_word : UnitKind → List ℕ
kind_word Stage = codes "stage"
kind_word DealRr = codes "deal-rr"
kind_word DealOd = codes "deal-od"
kind_word (DealBy field) = codes "deal-by-"
kind_word Merge = codes "merge"
kind_word ODealRr = codes "odeal-rr"
kind_word ODealOd = codes "odeal-od"
kind_word OMergeTurn = codes "omerge-turn"
kind_word OMergePick = codes "omerge-pick"
kind_word Master = codes "master"
kind_word Worker = codes "worker"

-- the field of a kind that goes by one
abbrev pub kind_field : UnitKind → List ℕ
kind_field (DealBy field) = printed (pos field)
kind_field _ = []

-- edges, each behind a space
abbrev pub printed_edges : List ℕ → List ℕ
printed_edges [] = []
printed_edges (e ∷ es) = 32 ∷ (printed (pos e) ++ printed_edges es)

-- the node or comb that stands at a unit's place
abbrev pub printed_node : Option (Tree OpState) → List ℕ
printed_node None = []
printed_node (Some t) = codes " : " ++ printed_net t

-- the same, of a stage or a worker
abbrev pub printed_work : UnitKind → Option (Tree OpState) → List ℕ
printed_work Stage t = printed_node t
printed_work Worker t = printed_node t
printed_work _ t = []

-- a unit's number and its kind
abbrev pub printed_label : ℕ → UnitKind → List ℕ
printed_label k kind = printed (pos k) ++ 32 ∷ (kind_word kind ++ kind_field kind)

-- its ins and its outs
abbrev pub printed_ports : Row → List ℕ
printed_ports row = printed_edges row.ins ++ (codes " >" ++ printed_edges row.outs)

-- unit `k` of a plan of network `t`; 10 is the newline
abbrev pub printed_unit : Tree OpState → ℕ → Row → List ℕ
printed_unit t k row = printed_label k row.kind ++ (printed_ports row ++ (printed_work row.kind (net_at t row.place) ++ 10 ∷ []))

-- these units, the first of them unit `k`
abbrev pub printed_units : Tree OpState → ℕ → List Row → List ℕ
printed_units t k [] = []
printed_units t k (row ∷ rows) = printed_unit t k row ++ printed_units t (k + 1) rows
