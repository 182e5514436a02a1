-- A unit of a plan fits what is said of its kind, as a master does by its log, and is over its limit where that log is.
use Rattle.std.proofs.Common.{◌≡◌, ℕ, Bool, true, List, length, sym, subst}
use Rattle.std.proofs.lemmas.List.{length-replicate}
use Rattle.ff_node.specs.Behaviour.{Behaviour, KeepsKind}
use Rattle.ff_node.specs.Comb.{comb_node}
use Rattle.ff_node.specs.CombKindLaws.{comb_keeps_kind}
use Rattle.ff_node.specs.Fits.{FitsMerge}
use Rattle.ff_node.specs.Runs.{Message}
use Rattle.ff_net.specs.Logs.{Event, FitsMaster, BeginsMaster}
use Rattle.ff_net.specs.Tree.{Tree, Leaf, Pipe, Comb, Farm, OFarm, A2a, Wrap}
use Rattle.ff_plan.specs.declared.kind.UnitKind.{UnitKind}
use Rattle.ff_plan.specs.declared.kind.UnitKind.TheVariants.{Stage, DealRr, DealOd, DealBy, Merge, ODealRr, ODealOd, OMergeTurn, OMergePick, Master, Worker}
use Rattle.ff_plan.specs.Histories.{group_of, FitsLog, BeginsLog, FitsKind, FitsUnit, BeginsUnit, IsOverAt}
use Rattle.ff_plan.specs.Rows.{Laid, laid}
use Rattle.ff_unit.specs.Units.{Ran}
use Rattle.ff_steps.specs.NetUnits.{NetState, net_does, opening_net, over_net, log_of_net}
use Rattle.ff_steps.specs.PlanUnits.{opened_kind, opened_unit, master_unit}
use Rattle.ff_steps.proofs.LogFits.{begins-to, workers-opened, FitsBy, BeginsBy, PastBy, past-opening, over-opening, Fits-opening, Begins-opening}
use Rattle.ff_steps.proofs.Shapes.{IsMasterOf, IsShaped, HasShape}
use Rattle.ff_steps.proofs.StageSame.{FitsStage-same, FitsWorker-same}

module _ {N : Type 0} (b : Behaviour N) (kind : KeepsKind b) (m : ℕ) (keep : Bool) where
  -- the masters of the plan
  Fits-master : (t : Tree N) (n k : ℕ) (log : List Event) (ins outs : List (List Message)) → IsMasterOf t n k → FitsBy b (master_unit b m keep t) log ins outs → FitsLog m t log ins outs
  Fits-master (Leaf o) n k log ins outs shape fits = absurd shape
  Fits-master (Pipe ts) n k log ins outs shape fits = absurd shape
  Fits-master (Comb ts) n k log ins outs shape fits = absurd shape
  Fits-master (Farm c s w) n k log ins outs shape fits = absurd shape
  Fits-master (OFarm c s w) n k log ins outs shape fits = absurd shape
  Fits-master (A2a c l r j v) n k log ins outs shape fits = absurd shape
  Fits-master (Wrap c w p) n k log ins outs shape fits = subst (λ d. FitsMaster d m p log ins outs) (workers-opened p m c) fits

  Begins-master : (t : Tree N) (n k : ℕ) (log : List Event) (gots puts : List (List Message)) → IsMasterOf t n k → BeginsBy b (master_unit b m keep t) log gots puts → BeginsLog m t log gots puts
  Begins-master (Leaf o) n k log gots puts shape begins = absurd shape
  Begins-master (Pipe ts) n k log gots puts shape begins = absurd shape
  Begins-master (Comb ts) n k log gots puts shape begins = absurd shape
  Begins-master (Farm c s w) n k log gots puts shape begins = absurd shape
  Begins-master (OFarm c s w) n k log gots puts shape begins = absurd shape
  Begins-master (A2a c l r j v) n k log gots puts shape begins = absurd shape
  Begins-master (Wrap c w p) n k log gots puts shape begins = subst (λ d. BeginsMaster d m p log gots puts) (workers-opened p m c) begins

  past-plan : (t : Tree N) (n k : ℕ) (log : List Event) → IsMasterOf t n k → PastBy b (master_unit b m keep t) log → IsOverAt m Master t log
  past-plan (Leaf o) n k log shape past = absurd shape
  past-plan (Pipe ts) n k log shape past = absurd shape
  past-plan (Comb ts) n k log shape past = absurd shape
  past-plan (Farm c s w) n k log shape past = absurd shape
  past-plan (OFarm c s w) n k log shape past = absurd shape
  past-plan (A2a c l r j v) n k log shape past = absurd shape
  past-plan (Wrap c w p) n k log shape past = past

  over-plan : (t : Tree N) (n k : ℕ) (log : List Event) → IsMasterOf t n k → IsOverAt m Master t log → PastBy b (master_unit b m keep t) log
  over-plan (Leaf o) n k log shape over = absurd shape
  over-plan (Pipe ts) n k log shape over = absurd shape
  over-plan (Comb ts) n k log shape over = absurd shape
  over-plan (Farm c s w) n k log shape over = absurd shape
  over-plan (OFarm c s w) n k log shape over = absurd shape
  over-plan (A2a c l r j v) n k log shape over = absurd shape
  over-plan (Wrap c w p) n k log shape over = over

  -- by the kinds
  Fits-kind : (is_of : UnitKind) (t : Tree N) (n k : ℕ) (log : List Event) (ins outs : List (List Message)) → IsShaped b is_of t n k
      → FitsBy b (opened_kind b m keep is_of t n k) log ins outs → FitsKind b m is_of t n k log ins outs
  Fits-kind Stage t n k log ins outs shape fits =
      FitsStage-same (comb_node b) (comb_keeps_kind b kind) ((comb_node b).opening (group_of b t)) (group_of b t) ((comb_keeps_kind b kind).opening_of_opening (group_of b t)) ins outs fits
  Fits-kind DealRr t n k log ins outs shape fits = fits
  Fits-kind DealOd t n k log ins outs shape fits = fits
  Fits-kind (DealBy f) t n k log ins outs shape fits = fits
  Fits-kind Merge t n k log ins outs shape fits = subst (λ c. FitsMerge c ins outs) (length-replicate n true) fits
  Fits-kind ODealRr t n k log ins outs shape fits = fits
  Fits-kind ODealOd t n k log ins outs shape fits = fits
  Fits-kind OMergeTurn t n k log ins outs shape fits = fits
  Fits-kind OMergePick t n k log ins outs shape fits = fits
  Fits-kind Master t n k log ins outs shape fits = Fits-master t n k log ins outs shape fits
  Fits-kind Worker t n k log ins outs shape fits =
      FitsWorker-same (comb_node b) (comb_keeps_kind b kind) ((comb_node b).opening (group_of b t)) (group_of b t) ((comb_keeps_kind b kind).opening_of_opening (group_of b t)) ins outs fits

  Begins-kind : (is_of : UnitKind) (ins outs place : List ℕ) (t : Tree N) (log : List Event) (gots puts : List (List Message)) → HasShape b (laid is_of ins outs place t)
      → BeginsBy b (opened_kind b m keep is_of t (length ins) (length outs)) log gots puts → BeginsUnit b m (laid is_of ins outs place t) log gots puts
  Begins-kind Stage ins outs place t log gots puts shape begins =
      begins-to (FitsBy b (opened_kind b m keep Stage t (length ins) (length outs)) log) (FitsKind b m Stage t (length ins) (length outs) log) gots puts
      (λ x y. Fits-kind Stage t (length ins) (length outs) log x y shape) begins
  Begins-kind DealRr ins outs place t log gots puts shape begins =
      begins-to (FitsBy b (opened_kind b m keep DealRr t (length ins) (length outs)) log) (FitsKind b m DealRr t (length ins) (length outs) log) gots puts
      (λ x y. Fits-kind DealRr t (length ins) (length outs) log x y shape) begins
  Begins-kind DealOd ins outs place t log gots puts shape begins =
      begins-to (FitsBy b (opened_kind b m keep DealOd t (length ins) (length outs)) log) (FitsKind b m DealOd t (length ins) (length outs) log) gots puts
      (λ x y. Fits-kind DealOd t (length ins) (length outs) log x y shape) begins
  Begins-kind (DealBy f) ins outs place t log gots puts shape begins =
      begins-to (FitsBy b (opened_kind b m keep (DealBy f) t (length ins) (length outs)) log) (FitsKind b m (DealBy f) t (length ins) (length outs) log) gots puts
      (λ x y. Fits-kind (DealBy f) t (length ins) (length outs) log x y shape) begins
  Begins-kind Merge ins outs place t log gots puts shape begins =
      begins-to (FitsBy b (opened_kind b m keep Merge t (length ins) (length outs)) log) (FitsKind b m Merge t (length ins) (length outs) log) gots puts
      (λ x y. Fits-kind Merge t (length ins) (length outs) log x y shape) begins
  Begins-kind ODealRr ins outs place t log gots puts shape begins =
      begins-to (FitsBy b (opened_kind b m keep ODealRr t (length ins) (length outs)) log) (FitsKind b m ODealRr t (length ins) (length outs) log) gots puts
      (λ x y. Fits-kind ODealRr t (length ins) (length outs) log x y shape) begins
  Begins-kind ODealOd ins outs place t log gots puts shape begins =
      begins-to (FitsBy b (opened_kind b m keep ODealOd t (length ins) (length outs)) log) (FitsKind b m ODealOd t (length ins) (length outs) log) gots puts
      (λ x y. Fits-kind ODealOd t (length ins) (length outs) log x y shape) begins
  Begins-kind OMergeTurn ins outs place t log gots puts shape begins =
      begins-to (FitsBy b (opened_kind b m keep OMergeTurn t (length ins) (length outs)) log) (FitsKind b m OMergeTurn t (length ins) (length outs) log) gots puts
      (λ x y. Fits-kind OMergeTurn t (length ins) (length outs) log x y shape) begins
  Begins-kind OMergePick ins outs place t log gots puts shape begins =
      begins-to (FitsBy b (opened_kind b m keep OMergePick t (length ins) (length outs)) log) (FitsKind b m OMergePick t (length ins) (length outs) log) gots puts
      (λ x y. Fits-kind OMergePick t (length ins) (length outs) log x y shape) begins
  Begins-kind Master ins outs place t log gots puts shape begins = Begins-master t (length ins) (length outs) log gots puts shape begins
  Begins-kind Worker ins outs place t log gots puts shape begins =
      begins-to (FitsBy b (opened_kind b m keep Worker t (length ins) (length outs)) log) (FitsKind b m Worker t (length ins) (length outs) log) gots puts
      (λ x y. Fits-kind Worker t (length ins) (length outs) log x y shape) begins

  past-kind : (is_of : UnitKind) (t : Tree N) (n k : ℕ) (log : List Event) → IsShaped b is_of t n k → PastBy b (opened_kind b m keep is_of t n k) log → IsOverAt m is_of t log
  past-kind Stage t n k log shape past = absurd past
  past-kind DealRr t n k log shape past = absurd past
  past-kind DealOd t n k log shape past = absurd past
  past-kind (DealBy f) t n k log shape past = absurd past
  past-kind Merge t n k log shape past = absurd past
  past-kind ODealRr t n k log shape past = absurd past
  past-kind ODealOd t n k log shape past = absurd past
  past-kind OMergeTurn t n k log shape past = absurd past
  past-kind OMergePick t n k log shape past = absurd past
  past-kind Master t n k log shape past = past-plan t n k log shape past
  past-kind Worker t n k log shape past = absurd past

  over-kind : (is_of : UnitKind) (t : Tree N) (n k : ℕ) (log : List Event) → IsShaped b is_of t n k → IsOverAt m is_of t log → PastBy b (opened_kind b m keep is_of t n k) log
  over-kind Stage t n k log shape over = absurd over
  over-kind DealRr t n k log shape over = absurd over
  over-kind DealOd t n k log shape over = absurd over
  over-kind (DealBy f) t n k log shape over = absurd over
  over-kind Merge t n k log shape over = absurd over
  over-kind ODealRr t n k log shape over = absurd over
  over-kind ODealOd t n k log shape over = absurd over
  over-kind OMergeTurn t n k log shape over = absurd over
  over-kind OMergePick t n k log shape over = absurd over
  over-kind Master t n k log shape over = over-plan t n k log shape over
  over-kind Worker t n k log shape over = absurd over

  -- a unit that was this one of the plan before its first step
  module _ (u : NetState N) (l : Laid N) (made : opening_net b u ≡ opened_unit b m keep l) (shape : HasShape b l) where
    pub FitsUnit-unit : (ins outs : List (List Message)) → (net_does b).Fits u ins outs → FitsUnit b m l (log_of_net u) ins outs
    FitsUnit-unit ins outs fits =
        Fits-kind l.row.kind l.net (length l.row.ins) (length l.row.outs) (log_of_net u) ins outs shape (subst (λ v. FitsBy b v (log_of_net u) ins outs) made (Fits-opening b kind u ins outs fits))

    pub BeginsUnit-unit : (gots puts : List (List Message)) → (net_does b).Begins u gots puts → BeginsUnit b m l (log_of_net u) gots puts
    BeginsUnit-unit gots puts begins =
        Begins-kind l.row.kind l.row.ins l.row.outs l.row.place l.net (log_of_net u) gots puts shape
        (subst (λ v. BeginsBy b v (log_of_net u) gots puts) made (Begins-opening b kind u gots puts begins))

    module _ (gots puts : List (List Message)) (ran : Ran (net_does b) u gots puts) where
      -- it tells that it is over exactly where its log is over the limit
      pub past-unit : over_net u ≡ true → IsOverAt m l.row.kind l.net (log_of_net u)
      past-unit over =
          past-kind l.row.kind l.net (length l.row.ins) (length l.row.outs) (log_of_net u) shape (subst (λ v. PastBy b v (log_of_net u)) made (past-opening b u gots puts ran over))

      pub over-unit : IsOverAt m l.row.kind l.net (log_of_net u) → over_net u ≡ true
      over-unit past =
          over-opening b u gots puts ran
          (subst (λ v. PastBy b v (log_of_net u)) (sym made) (over-kind l.row.kind l.net (length l.row.ins) (length l.row.outs) (log_of_net u) shape past))
