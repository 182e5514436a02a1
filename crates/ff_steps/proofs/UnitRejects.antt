-- A unit of a plan rejects what is said of its kind, and keeps it where it is told to.
use Rattle.std.proofs.Common.{◌≡◌, ℕ, Bool, true, false, List, [], ◌∷◌, ◌++◌, map, length, refl, sym, ap, ◌∙◌, append-nil}
use Rattle.ff_rec.specs.Streams.{at, items, closed}
use Rattle.ff_rec.specs.declared.msg.Msg.TheVariants.{Eos}
use Rattle.ff_node.specs.Behaviour.{Behaviour, KeepsKind, node_rejected}
use Rattle.ff_node.specs.Comb.{comb_node}
use Rattle.ff_node.specs.CombKindLaws.{comb_keeps_kind}
use Rattle.ff_node.specs.Runs.{Message}
use Rattle.ff_net.specs.Tree.{Tree, Leaf, Pipe, Comb, Farm, OFarm, A2a, Wrap}
use Rattle.ff_plan.specs.declared.kind.UnitKind.{UnitKind}
use Rattle.ff_plan.specs.declared.kind.UnitKind.TheVariants.{Stage, DealRr, DealOd, DealBy, Merge, ODealRr, ODealOd, OMergeTurn, OMergePick, Master, Worker}
use Rattle.ff_plan.specs.Histories.{group_of, rejected_by}
use Rattle.ff_plan.specs.Rows.{Laid}
use Rattle.ff_unit.specs.MessageLaws.{items-append}
use Rattle.ff_unit.specs.Units.{HasRejects}
use Rattle.ff_steps.specs.NetUnits.{NetState, AsStage, AsDeal, AsMerge, AsOMerge, AsMaster, AsWorker, net_does, opening_net}
use Rattle.ff_steps.specs.PlanUnits.{opened_kind, opened_unit, master_unit}
use Rattle.ff_steps.proofs.Shapes.{IsMasterOf, IsShaped, HasShape}
use Rattle.ff_steps.proofs.StageSame.{node_rejected-same}

-- what a list carries is what it carries before its end
items-first : (ins : List (List Message)) → items (at (map closed ins) 0) ≡ items (at ins 0)
items-first [] = refl
items-first (ms ∷ ins) = items-append ms (Eos ∷ []) ∙ append-nil (items ms)

-- whether a stage or a worker keeps its rejects; any other unit has none
keeps_or : {N : Type 0} → Bool → NetState N → Bool
keeps_or keep (AsStage u) = u.keeps
keeps_or keep (AsDeal u) = keep
keeps_or keep (AsMerge u) = keep
keeps_or keep (AsOMerge u) = keep
keeps_or keep (AsMaster u) = keep
keeps_or keep (AsWorker u) = u.keeps

module _ {N : Type 0} (b : Behaviour N) (kind : KeepsKind b) (m : ℕ) (keep : Bool) where
  -- a unit rejects what it rejected before its first step
  rejected-opening : (u : NetState N) (gots : List (List Message)) → (net_does b).rejected u gots ≡ (net_does b).rejected (opening_net b u) gots
  rejected-opening (AsStage u) gots =
      node_rejected-same (comb_node b) (comb_keeps_kind b kind) u.node ((comb_node b).opening u.node) (sym ((comb_keeps_kind b kind).opening_of_opening u.node)) (items (at gots 0))
  rejected-opening (AsDeal u) gots = refl
  rejected-opening (AsMerge u) gots = refl
  rejected-opening (AsOMerge u) gots = refl
  rejected-opening (AsMaster u) gots = refl
  rejected-opening (AsWorker u) gots =
      node_rejected-same (comb_node b) (comb_keeps_kind b kind) u.node ((comb_node b).opening u.node) (sym ((comb_keeps_kind b kind).opening_of_opening u.node)) (items (at gots 0))

  -- a master rejects nothing
  rejected-master : (t : Tree N) (n k : ℕ) (gots : List (List Message)) → IsMasterOf t n k → (net_does b).rejected (master_unit b m keep t) gots ≡ []
  rejected-master (Leaf o) n k gots shape = absurd shape
  rejected-master (Pipe ts) n k gots shape = absurd shape
  rejected-master (Comb ts) n k gots shape = absurd shape
  rejected-master (Farm c s w) n k gots shape = absurd shape
  rejected-master (OFarm c s w) n k gots shape = absurd shape
  rejected-master (A2a c l r j v) n k gots shape = absurd shape
  rejected-master (Wrap c w p) n k gots shape = refl

  keeps-master : (t : Tree N) → keeps_or keep (master_unit b m keep t) ≡ keep
  unfolding keeps_or
  keeps-master (Leaf o) = refl
  keeps-master (Pipe ts) = refl
  keeps-master (Comb ts) = refl
  keeps-master (Farm c s w) = refl
  keeps-master (OFarm c s w) = refl
  keeps-master (A2a c l r j v) = refl
  keeps-master (Wrap c w p) = refl

  -- by the kinds
  rejected-kind : (is_of : UnitKind) (t : Tree N) (n k : ℕ) (gots : List (List Message)) → IsShaped b is_of t n k
      → (net_does b).rejected (opened_kind b m keep is_of t n k) gots ≡ rejected_by b is_of t gots
  rejected-kind Stage t n k gots shape =
      node_rejected-same (comb_node b) (comb_keeps_kind b kind) ((comb_node b).opening (group_of b t)) (group_of b t) ((comb_keeps_kind b kind).opening_of_opening (group_of b t)) (items (at gots 0))
  rejected-kind DealRr t n k gots shape = refl
  rejected-kind DealOd t n k gots shape = refl
  rejected-kind (DealBy f) t n k gots shape = refl
  rejected-kind Merge t n k gots shape = refl
  rejected-kind ODealRr t n k gots shape = refl
  rejected-kind ODealOd t n k gots shape = refl
  rejected-kind OMergeTurn t n k gots shape = refl
  rejected-kind OMergePick t n k gots shape = refl
  rejected-kind Master t n k gots shape = rejected-master t n k gots shape
  rejected-kind Worker t n k gots shape =
      node_rejected-same (comb_node b) (comb_keeps_kind b kind) ((comb_node b).opening (group_of b t)) (group_of b t) ((comb_keeps_kind b kind).opening_of_opening (group_of b t)) (items (at gots 0))

  rejected_by-closed : (is_of : UnitKind) (t : Tree N) (ins : List (List Message)) → rejected_by b is_of t (map closed ins) ≡ rejected_by b is_of t ins
  rejected_by-closed Stage t ins = ap (λ xs. node_rejected (comb_node b) (group_of b t) xs) (items-first ins)
  rejected_by-closed DealRr t ins = refl
  rejected_by-closed DealOd t ins = refl
  rejected_by-closed (DealBy f) t ins = refl
  rejected_by-closed Merge t ins = refl
  rejected_by-closed ODealRr t ins = refl
  rejected_by-closed ODealOd t ins = refl
  rejected_by-closed OMergeTurn t ins = refl
  rejected_by-closed OMergePick t ins = refl
  rejected_by-closed Master t ins = refl
  rejected_by-closed Worker t ins = ap (λ xs. node_rejected (comb_node b) (group_of b t) xs) (items-first ins)

  keeps-kind : (is_of : UnitKind) (t : Tree N) (n k : ℕ) → keeps_or keep (opened_kind b m keep is_of t n k) ≡ keep
  unfolding keeps_or
  keeps-kind Stage t n k = refl
  keeps-kind DealRr t n k = refl
  keeps-kind DealOd t n k = refl
  keeps-kind (DealBy f) t n k = refl
  keeps-kind Merge t n k = refl
  keeps-kind ODealRr t n k = refl
  keeps-kind ODealOd t n k = refl
  keeps-kind OMergeTurn t n k = refl
  keeps-kind OMergePick t n k = refl
  keeps-kind Master t n k = keeps-master t
  keeps-kind Worker t n k = refl

  keeps-opening : (u : NetState N) → keeps_or keep u ≡ keeps_or keep (opening_net b u)
  unfolding keeps_or
  keeps-opening (AsStage u) = refl
  keeps-opening (AsDeal u) = refl
  keeps-opening (AsMerge u) = refl
  keeps-opening (AsOMerge u) = refl
  keeps-opening (AsMaster u) = refl
  keeps-opening (AsWorker u) = refl

  -- a unit that has ended holds its rejects behind those that were taken out, where they are kept
  kept-of : (u : NetState N) (gots : List (List Message)) → keeps_or keep u ≡ keep → HasRejects (net_does b) u gots → keep ≡ true
      → (net_does b).taken u ++ (net_does b).kept u ≡ (net_does b).rejected u gots
  unfolding keeps_or
  kept-of (AsStage u) gots keeps r on = r.kept_are (keeps ∙ on)
  kept-of (AsDeal u) gots keeps r on = refl
  kept-of (AsMerge u) gots keeps r on = refl
  kept-of (AsOMerge u) gots keeps r on = refl
  kept-of (AsMaster u) gots keeps r on = refl
  kept-of (AsWorker u) gots keeps r on = r.kept_are (keeps ∙ on)

  none-of : (u : NetState N) (gots : List (List Message)) → keeps_or keep u ≡ keep → HasRejects (net_does b) u gots → keep ≡ false → (net_does b).kept u ≡ []
  unfolding keeps_or
  none-of (AsStage u) gots keeps r off = r.none (keeps ∙ off)
  none-of (AsDeal u) gots keeps r off = refl
  none-of (AsMerge u) gots keeps r off = refl
  none-of (AsOMerge u) gots keeps r off = refl
  none-of (AsMaster u) gots keeps r off = refl
  none-of (AsWorker u) gots keeps r off = r.none (keeps ∙ off)

  -- a unit that was this one of the plan before its first step
  module _ (u : NetState N) (l : Laid N) (made : opening_net b u ≡ opened_unit b m keep l) (shape : HasShape b l) where
    pub rejected-unit : (ins : List (List Message)) → (net_does b).rejected u (map closed ins) ≡ rejected_by b l.row.kind l.net ins
    rejected-unit ins =
        rejected-opening u (map closed ins) ∙ ap (λ v. (net_does b).rejected v (map closed ins)) made
        ∙ rejected-kind l.row.kind l.net (length l.row.ins) (length l.row.outs) (map closed ins) shape ∙ rejected_by-closed l.row.kind l.net ins

    keeps-unit : keeps_or keep u ≡ keep
    keeps-unit = keeps-opening u ∙ ap (keeps_or keep) made ∙ keeps-kind l.row.kind l.net (length l.row.ins) (length l.row.outs)

    pub kept-unit : (gots : List (List Message)) → HasRejects (net_does b) u gots → keep ≡ true → (net_does b).taken u ++ (net_does b).kept u ≡ (net_does b).rejected u gots
    kept-unit gots = kept-of u gots keeps-unit

    pub none-unit : (gots : List (List Message)) → HasRejects (net_does b) u gots → keep ≡ false → (net_does b).kept u ≡ []
    none-unit gots = none-of u gots keeps-unit
