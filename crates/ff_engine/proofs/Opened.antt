-- The units of a network before their first steps, as jobs are made of them.
use Rattle.std.proofs.Common.{◌≡◌, ℕ, Bool, List, [], ◌∷◌, ◌++◌, length, map, flat_map, refl, sym, ap₂}
use Rattle.std.specs.List.{AllByRecursion, AllZip}
use Rattle.ff_node.specs.Behaviour.{Behaviour, KeepsKind}
use Rattle.ff_net.specs.Good.{Good}
use Rattle.ff_net.specs.Tree.{Tree, Leaf, Pipe, Comb, Farm, OFarm, A2a, Wrap}
use Rattle.ff_plan.specs.declared.kind.UnitKind.{UnitKind}
use Rattle.ff_plan.specs.declared.kind.UnitKind.TheVariants.{Stage, DealRr, DealOd, DealBy, Merge, ODealRr, ODealOd, OMergeTurn, OMergePick, Master, Worker}
use Rattle.ff_plan.specs.Laying.{units_of}
use Rattle.ff_plan.specs.Plans.{rows_of}
use Rattle.ff_plan.specs.Rows.{Laid, Row}
use Rattle.ff_steps.specs.NetUnits.{NetState, net_does, opening_net}
use Rattle.ff_steps.specs.PlanUnits.{master_unit, opened_kind, opened_unit, opened_units}
use Rattle.ff_steps.proofs.FreshUnits.{IsFresh-kind, Ran-kind, opening-kind}
use Rattle.ff_steps.proofs.Shapes.{HasShape, shapes-lay}
use Rattle.ff_engine.specs.Jobs.{IsOpened}

module _ {N : Type 0} (b : Behaviour N) (m : ℕ) (keep : Bool) where
  untaken-master : (t : Tree N) → (net_does b).taken (master_unit b m keep t) ≡ []
  untaken-master (Leaf o) = refl
  untaken-master (Pipe ts) = refl
  untaken-master (Comb ts) = refl
  untaken-master (Farm n s w) = refl
  untaken-master (OFarm n s w) = refl
  untaken-master (A2a n l r k t) = refl
  untaken-master (Wrap n w p) = refl

  untaken-kind : (is_of : UnitKind) (t : Tree N) (n k : ℕ) → (net_does b).taken (opened_kind b m keep is_of t n k) ≡ []
  untaken-kind Stage t n k = refl
  untaken-kind DealRr t n k = refl
  untaken-kind DealOd t n k = refl
  untaken-kind (DealBy f) t n k = refl
  untaken-kind Merge t n k = refl
  untaken-kind ODealRr t n k = refl
  untaken-kind ODealOd t n k = refl
  untaken-kind OMergeTurn t n k = refl
  untaken-kind OMergePick t n k = refl
  untaken-kind Master t n k = untaken-master t
  untaken-kind Worker t n k = refl

  untaken-units : (ls : List (Laid N)) → flat_map (net_does b).taken (map (opened_unit b m keep) ls) ≡ []
  untaken-units [] = refl
  untaken-units (l ∷ ls) =
      ap₂ (λ here rest. here ++ rest) (untaken-kind l.row.kind l.net (length l.row.ins) (length l.row.outs)) (untaken-units ls)

  -- no reject was taken out of one
  pub untaken : (t : Tree N) → flat_map (net_does b).taken (opened_units b m keep t) ≡ []
  untaken t = untaken-units (units_of t)

  module _ (kind : KeepsKind b) where
    opened-again-units : (ls : List (Laid N)) → AllByRecursion (HasShape b) ls → map (opening_net b) (map (opened_unit b m keep) ls) ≡ map (opened_unit b m keep) ls
    opened-again-units [] shapes = refl
    opened-again-units (l ∷ ls) shapes =
        ap₂ (λ u us. u ∷ us) (opening-kind b kind m keep l.row.kind l.net (length l.row.ins) (length l.row.outs) shapes.0) (opened-again-units ls shapes.1)

    abbrev Opens : Row → NetState N → Type 0
    Opens row u = IsOpened (net_does b) row u

    IsOpened-kind : (l : Laid N) → HasShape b l → Opens l.row (opened_unit b m keep l)
    IsOpened-kind l shape =
        let fresh = IsFresh-kind b kind m keep l.row.kind l.net (length l.row.ins) (length l.row.outs) shape in record {
          made = fresh.made;
          opened = sym fresh.opened;
          ins = fresh.ins;
          outs = fresh.outs;
          ran = Ran-kind b kind m keep l.row.kind l.net (length l.row.ins) (length l.row.outs) shape;
        }

    IsOpened-laid : (ls : List (Laid N)) → AllByRecursion (HasShape b) ls → AllZip Opens (map (λ (l : Laid N). l.row) ls) (map (opened_unit b m keep) ls)
    IsOpened-laid [] shapes = tt
    IsOpened-laid (l ∷ ls) shapes = (IsOpened-kind l shapes.0, IsOpened-laid ls shapes.1)

    module _ (t : Tree N) (good : Good b t) where
      -- one before its first step is what it was before its first step
      pub opened-again : map (opening_net b) (opened_units b m keep t) ≡ opened_units b m keep t
      opened-again = opened-again-units (units_of t) (shapes-lay b t good [] 0 1 2)

      -- each has the ins and outs of its row
      pub IsOpened-units : AllZip (λ row u. IsOpened (net_does b) row u) (rows_of t) (opened_units b m keep t)
      IsOpened-units = IsOpened-laid (units_of t) (shapes-lay b t good [] 0 1 2)
