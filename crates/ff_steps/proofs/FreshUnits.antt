-- The units of a network's plan before their first steps took and put nothing.
use Rattle.std.proofs.Common.{◌≡◌, ℕ, suc, ◌-◌, Bool, true, [], length, replicate, refl, sym, ap, ◌∙◌, subst, arith}
use Rattle.std.proofs.lemmas.List.{length-replicate}
use Rattle.ff_node.specs.Behaviour.{Behaviour, KeepsKind}
use Rattle.ff_node.specs.CombKindLaws.{comb_keeps_kind}
use Rattle.ff_net.specs.Good.{InRange, ArePlain}
use Rattle.ff_net.specs.Tree.{Tree, Leaf, Pipe, Comb, Farm, OFarm, A2a, Wrap}
use Rattle.ff_plan.specs.declared.kind.UnitKind.{UnitKind}
use Rattle.ff_plan.specs.declared.kind.UnitKind.TheVariants.{Stage, DealRr, DealOd, DealBy, Merge, ODealRr, ODealOd, OMergeTurn, OMergePick, Master, Worker}
use Rattle.ff_plan.specs.Histories.{group_of}
use Rattle.ff_plan.proofs.PlainWorkers.{group_of-plain}
use Rattle.ff_unit.specs.Merges.{opened_merge}
use Rattle.ff_unit.specs.Stage.{started}
use Rattle.ff_unit.specs.Units.{Doing, Ran, RanFrom}
use Rattle.ff_steps.specs.NetUnits.{AsStage, AsMerge, AsMaster, AsWorker, net_does, opening_net}
use Rattle.ff_steps.specs.PlanUnits.{opened_kind, master_unit, worker_unit, IsUnrun}
use Rattle.ff_loop.specs.WrapMasters.{opened_wrap}
use Rattle.ff_steps.proofs.Shapes.{IsShaped, IsMasterOf, IsOneMore}

-- a unit that is what it was before its first step, and has so many ins and outs
pub record IsFresh {U : Type 0} (d : Doing U) (n k : ℕ) (u : U) : Type 0 where
  pub opened : d.opening u ≡ u
  pub made : d.Made u
  pub ins : d.ins u ≡ n
  pub outs : d.outs u ≡ k

Ran-fresh : {U : Type 0} (d : Doing U) (n k : ℕ) (u : U) → IsFresh d n k u → Ran d u (replicate n []) (replicate k [])
Ran-fresh d n k u fresh =
    subst (λ o. RanFrom d o u (replicate n []) (replicate k [])) (sym fresh.opened)
    (fresh.made, record { acts = []; leads = refl; takes = ap (λ c. replicate c []) (sym fresh.ins); gives = ap (λ c. replicate c []) (sym fresh.outs) })

-- all but the edge of the picks, and that edge
places-one_more : (n : ℕ) (more : IsOneMore n) → n - 1 ≡ more.places
places-one_more n more = omega (arith, more.is)

all-one_more : (n : ℕ) → IsOneMore n → suc (n - 1) ≡ n
all-one_more n more = omega (arith, more.is)

module _ {N : Type 0} (b : Behaviour N) (kind : KeepsKind b) (m : ℕ) (keep : Bool) where
  IsFresh-stage : (t : Tree N) → IsFresh (net_does b) 1 1 (opened_kind b m keep Stage t 1 1)
  IsFresh-stage t = record {
    opened = ap (λ n. AsStage (started n keep)) ((comb_keeps_kind b kind).opening_of_opening (group_of b t));
    made = tt;
    ins = refl;
    outs = refl;
  }

  IsFresh-merge : (n : ℕ) → InRange n → IsFresh (net_does b) n 1 (AsMerge (opened_merge n))
  IsFresh-merge n some = record {
    opened = ap (λ c. AsMerge (opened_merge c)) (length-replicate n true);
    made = subst InRange (sym (length-replicate n true)) some;
    ins = length-replicate n true;
    outs = refl;
  }

  IsFresh-master : (t : Tree N) (n k : ℕ) → IsMasterOf t n k → IsFresh (net_does b) n k (master_unit b m keep t)
  IsFresh-master (Leaf o) n k shape = absurd shape
  IsFresh-master (Pipe ts) n k shape = absurd shape
  IsFresh-master (Comb ts) n k shape = absurd shape
  IsFresh-master (Farm c s w) n k shape = absurd shape
  IsFresh-master (OFarm c s w) n k shape = absurd shape
  IsFresh-master (A2a c l r j t) n k shape = absurd shape
  IsFresh-master (Wrap c w p) n k shape =
      let many : length (replicate c []) ≡ c = length-replicate c [] in record {
        opened = ap (λ d. AsMaster (opened_wrap p m d)) many;
        made = subst InRange (sym many) shape.0;
        ins = ap suc many ∙ sym shape.1;
        outs = ap suc many ∙ sym shape.2;
      }

  IsFresh-worker : (t : Tree N) → ArePlain b t → IsFresh (net_does b) 1 1 (worker_unit b keep t)
  IsFresh-worker t plain =
      let combs = comb_keeps_kind b kind in record {
        opened = ap (λ n. AsWorker (started n keep)) (combs.opening_of_opening (group_of b t));
        made = combs.class_of_opening (group_of b t) ∙ group_of-plain b kind t plain;
        ins = refl;
        outs = refl;
      }

  pub IsFresh-kind : (is_of : UnitKind) (t : Tree N) (n k : ℕ) → IsShaped b is_of t n k → IsFresh (net_does b) n k (opened_kind b m keep is_of t n k)
  IsFresh-kind Stage t n k shape = let s = IsFresh-stage t in record { opened = s.opened; made = s.made; ins = sym shape.0; outs = sym shape.1 }
  IsFresh-kind DealRr t n k shape = record { opened = refl; made = shape.1; ins = sym shape.0; outs = refl }
  IsFresh-kind DealOd t n k shape = record { opened = refl; made = shape.1; ins = sym shape.0; outs = refl }
  IsFresh-kind (DealBy f) t n k shape = record { opened = refl; made = shape.1; ins = sym shape.0; outs = refl }
  IsFresh-kind Merge t n k shape = let s = IsFresh-merge n shape.0 in record { opened = s.opened; made = s.made; ins = s.ins; outs = sym shape.1 }
  IsFresh-kind ODealRr t n k shape = record { opened = refl; made = shape.1; ins = sym shape.0; outs = refl }
  IsFresh-kind ODealOd t n k shape = record {
    opened = refl;
    made = subst InRange (sym (places-one_more k shape.1)) shape.1.range;
    ins = sym shape.0;
    outs = all-one_more k shape.1;
  }
  IsFresh-kind OMergeTurn t n k shape = record { opened = refl; made = shape.0; ins = refl; outs = sym shape.1 }
  IsFresh-kind OMergePick t n k shape = record {
    opened = refl;
    made = subst InRange (sym (places-one_more n shape.0)) shape.0.range;
    ins = all-one_more n shape.0;
    outs = sym shape.1;
  }
  IsFresh-kind Master t n k shape = IsFresh-master t n k shape
  IsFresh-kind Worker t n k shape = let s = IsFresh-worker t shape.2 in record { opened = s.opened; made = s.made; ins = sym shape.0; outs = sym shape.1 }

  pub opening-kind : (is_of : UnitKind) (t : Tree N) (n k : ℕ) → IsShaped b is_of t n k → opening_net b (opened_kind b m keep is_of t n k) ≡ opened_kind b m keep is_of t n k
  opening-kind is_of t n k shape = (IsFresh-kind is_of t n k shape).opened

  pub Ran-kind : (is_of : UnitKind) (t : Tree N) (n k : ℕ) → IsShaped b is_of t n k → Ran (net_does b) (opened_kind b m keep is_of t n k) (replicate n []) (replicate k [])
  Ran-kind is_of t n k shape = Ran-fresh (net_does b) n k (opened_kind b m keep is_of t n k) (IsFresh-kind is_of t n k shape)

  -- so none of them made a step
  pub IsUnrun-kind : (is_of : UnitKind) (t : Tree N) (n k : ℕ) → IsShaped b is_of t n k → IsUnrun (net_does b) (opened_kind b m keep is_of t n k)
  IsUnrun-kind is_of t n k shape =
      let fresh = IsFresh-kind is_of t n k shape in
      let u = opened_kind b m keep is_of t n k in
      Ran-fresh (net_does b) ((net_does b).ins u) ((net_does b).outs u) u (record { opened = fresh.opened; made = fresh.made; ins = refl; outs = refl })
