-- What is known of a unit of a plan that can't move, by its kind.
use Rattle.std.specs.Prelude.{◌≤◌}
use Rattle.std.proofs.Common.{◌≡◌, ◌⊎◌, ℕ, Bool, true, false, List, length, refl, sym, ap, ◌∙◌, subst}
use Rattle.std.proofs.lemmas.List.{length-replicate}
use Rattle.ff_rec.specs.Streams.{at}
use Rattle.ff_node.specs.Behaviour.{Behaviour}
use Rattle.ff_node.specs.Comb.{comb_node}
use Rattle.ff_node.specs.Fits.{marks}
use Rattle.ff_node.specs.Runs.{Message}
use Rattle.ff_net.specs.Tree.{Tree}
use Rattle.ff_plan.specs.declared.kind.UnitKind.{UnitKind}
use Rattle.ff_plan.specs.declared.kind.UnitKind.TheVariants.{Stage, DealRr, DealOd, DealBy, Merge, ODealRr, ODealOd, OMergeTurn, OMergePick, Master, Worker}
use Rattle.ff_order.specs.declared.order.Order.{Order}
use Rattle.ff_order.specs.declared.order.Order.TheVariants.{InTurn as OrderInTurn}
use Rattle.ff_unit.specs.DealPickLaws.{IsOnDemand}
use Rattle.ff_unit.specs.Deals.{DealState, deal_outs}
use Rattle.ff_unit.specs.Units.{IsUnit, Ran, Known}
use Rattle.ff_unit.specs.declared.dealing.Dealing.{Dealing}
use Rattle.ff_unit.specs.declared.dealing.Dealing.TheVariants.{InTurn, ByKey, GroupsInTurn}
use Rattle.ff_steps.specs.NetUnitLaws.{Ran-stage, Ran-deal, Ran-merge, Ran-omerge}
use Rattle.ff_steps.specs.NetUnits.{NetState, AsStage, AsDeal, AsMerge, AsOMerge, AsMaster, AsWorker, net_does, opening_net}
use Rattle.ff_steps.specs.PlanUnits.{opened_kind}
use Rattle.ff_unit.proofs.Rests.{HasEnd}
use Rattle.ff_unit.proofs.Rests.{AtRest, IsFree, Rested, RestedDeal, AwaitsIn}
use Rattle.ff_unit.proofs.DealRests.{deal_rests, tied}
use Rattle.ff_unit.proofs.MergeRests.{merge_rests}
use Rattle.ff_order.proofs.ODealRests.{odeal_rests, free_none}
use Rattle.ff_order.proofs.OMergeRests.{omerge_rests}
use Rattle.ff_unit.proofs.StageRests.{stage_fewer, stage_rests}

-- what is known of a unit with `n` ins and `k` outs that can't move
abbrev pub KindRests : UnitKind → ℕ → ℕ → List (List Message) → List (List Message) → Known → Bool → Type 0
KindRests Stage n k gots puts after done =
    (marks (at puts 0) ≤ marks (at gots 0))
    × (IsFree k after → Rested n k gots puts after done × ((HasEnd (at puts 0) → ⊥) → marks (at puts 0) ≡ marks (at gots 0)))
KindRests DealRr n k gots puts after done = IsFree k after → Rested n k gots puts after done
KindRests DealOd n k gots puts after done = Unit {0}
KindRests (DealBy f) n k gots puts after done = IsFree k after → Rested n k gots puts after done
KindRests Merge n k gots puts after done = IsFree k after → Rested n k gots puts after done
KindRests ODealRr n k gots puts after done = RestedDeal k gots puts after done
KindRests ODealOd n k gots puts after done = Unit {0}
KindRests OMergeTurn n k gots puts after done = IsFree k after → AwaitsIn n gots after ⊎ Rested n k gots puts after done
KindRests OMergePick n k gots puts after done = Unit {0}
KindRests Master n k gots puts after done = Unit {0}
KindRests Worker n k gots puts after done = Unit {0}

-- so many ins and outs
abbrev pub IsPlainShape : UnitKind → ℕ → ℕ → Type 0
IsPlainShape Stage n k = (n ≡ 1) × (k ≡ 1)
IsPlainShape DealRr n k = n ≡ 1
IsPlainShape DealOd n k = Unit {0}
IsPlainShape (DealBy f) n k = n ≡ 1
IsPlainShape Merge n k = k ≡ 1
IsPlainShape ODealRr n k = n ≡ 1
IsPlainShape ODealOd n k = Unit {0}
IsPlainShape OMergeTurn n k = k ≡ 1
IsPlainShape OMergePick n k = Unit {0}
IsPlainShape Master n k = Unit {0}
IsPlainShape Worker n k = Unit {0}

module _ {N : Type 0} (b : Behaviour N) (laws : IsUnit (net_does b)) (m : ℕ) (keep : Bool) (t : Tree N) (n k : ℕ) (gots puts : List (List Message)) (before after : Known) (idle : after.waiting ≡ 0) where
  abbrev Made : NetState N → UnitKind → Type 0
  Made u kind = opening_net b u ≡ opened_kind b m keep kind t n k

  abbrev Rests : NetState N → UnitKind → Type 0
  Rests u kind = IsPlainShape kind n k → Made u kind → Ran (net_does b) u gots puts → (net_does b).told u ≡ false → AtRest (net_does b) u before after
      → KindRests kind n k gots puts after ((net_does b).done u)

  stage : (u : NetState N) → Rests u Stage
  stage (AsStage u) shape made ran told rest =
      let run = Ran-stage b u gots puts ran in
      let ready = laws.ready (AsStage u) gots puts ran in (
        stage_fewer (comb_node b) u gots puts run ready,
        λ free.
            let one : IsFree 1 after = subst (λ j. IsFree j after) shape.1 free in
            let stuck = stage_rests (comb_node b) u gots puts run ready told before after rest one in
            (subst (λ i. Rested i k gots puts after u.done) (sym shape.0) (subst (λ j. Rested 1 j gots puts after u.done) (sym shape.1) stuck.rested), stuck.marked.same),
      )
  stage (AsDeal u) shape made ran told rest = absurd (cc made)
  stage (AsMerge u) shape made ran told rest = absurd (cc made)
  stage (AsOMerge u) shape made ran told rest = absurd (cc made)
  stage (AsMaster u) shape made ran told rest = absurd (cc made)
  stage (AsWorker u) shape made ran told rest = absurd (cc made)

  -- a deal that doesn't go on demand
  deal_of : (u : DealState) (way : Dealing) → u.way ≡ way → u.places ≡ k → (IsOnDemand way → ⊥) → deal_outs way k ≡ k → n ≡ 1
      → Ran (net_does b) (AsDeal u) gots puts → u.told ≡ false → AtRest (net_does b) (AsDeal u) before after → IsFree k after → Rested n k gots puts after u.done
  deal_of u way is places other outs shape ran told rest free =
      let run = Ran-deal b u gots puts ran in
      let none = free_none u gots puts (tied u gots puts run told) (subst (λ w. IsOnDemand w → ⊥) (sym is) other) in
      let many : deal_outs u.way u.places ≡ k = ap (λ w. deal_outs w u.places) is ∙ ap (deal_outs way) places ∙ outs in
      let rested = deal_rests u gots puts run told before after none rest (subst (λ j. IsFree j after) (sym many) free) in
      subst (λ i. Rested i k gots puts after u.done) (sym shape) (subst (λ j. Rested 1 j gots puts after u.done) many rested)

  deal_rr : (u : NetState N) → Rests u DealRr
  deal_rr (AsDeal u) shape made ran told rest free =
      deal_of u InTurn (ap way_of made) (ap places_of made) (λ h. h) refl shape ran told rest free
    where
      way_of : NetState N → Dealing
      way_of (AsDeal w) = w.way
      way_of w = InTurn

      places_of : NetState N → ℕ
      places_of (AsDeal w) = w.places
      places_of w = 0
  deal_rr (AsStage u) shape made ran told rest free = absurd (cc made)
  deal_rr (AsMerge u) shape made ran told rest free = absurd (cc made)
  deal_rr (AsOMerge u) shape made ran told rest free = absurd (cc made)
  deal_rr (AsMaster u) shape made ran told rest free = absurd (cc made)
  deal_rr (AsWorker u) shape made ran told rest free = absurd (cc made)

  deal_by : (f : ℕ) (u : NetState N) → Rests u (DealBy f)
  deal_by f (AsDeal u) shape made ran told rest free =
      deal_of u (ByKey f) (ap way_of made) (ap places_of made) (λ h. h) refl shape ran told rest free
    where
      way_of : NetState N → Dealing
      way_of (AsDeal w) = w.way
      way_of w = InTurn

      places_of : NetState N → ℕ
      places_of (AsDeal w) = w.places
      places_of w = 0
  deal_by f (AsStage u) shape made ran told rest free = absurd (cc made)
  deal_by f (AsMerge u) shape made ran told rest free = absurd (cc made)
  deal_by f (AsOMerge u) shape made ran told rest free = absurd (cc made)
  deal_by f (AsMaster u) shape made ran told rest free = absurd (cc made)
  deal_by f (AsWorker u) shape made ran told rest free = absurd (cc made)

  merge : (u : NetState N) → Rests u Merge
  merge (AsMerge u) shape made ran told rest free =
      let long : length u.live ≡ n = sym (length-replicate (length u.live) true) ∙ ap lives_of made ∙ length-replicate n true in
      subst (λ i. Rested i k gots puts after u.done) long
      (subst (λ j. Rested (length u.live) j gots puts after u.done) (sym shape)
      (merge_rests u gots puts before after (Ran-merge b u gots puts ran) told rest (subst (λ j. IsFree j after) shape free)))
    where
      lives_of : NetState N → ℕ
      lives_of (AsMerge w) = length w.live
      lives_of w = 0
  merge (AsStage u) shape made ran told rest free = absurd (cc made)
  merge (AsDeal u) shape made ran told rest free = absurd (cc made)
  merge (AsOMerge u) shape made ran told rest free = absurd (cc made)
  merge (AsMaster u) shape made ran told rest free = absurd (cc made)
  merge (AsWorker u) shape made ran told rest free = absurd (cc made)

  odeal : (u : NetState N) → Rests u ODealRr
  odeal (AsDeal u) shape made ran told rest =
      let way : u.way ≡ GroupsInTurn = ap way_of made in
      let places : u.places ≡ k = ap places_of made in
      let run = Ran-deal b u gots puts ran in
      let t = tied u gots puts run told in
      subst (λ j. RestedDeal j gots puts after u.done) places (odeal_rests u way t.some gots puts before after run told rest idle)
    where
      way_of : NetState N → Dealing
      way_of (AsDeal w) = w.way
      way_of w = InTurn

      places_of : NetState N → ℕ
      places_of (AsDeal w) = w.places
      places_of w = 0
  odeal (AsStage u) shape made ran told rest = absurd (cc made)
  odeal (AsMerge u) shape made ran told rest = absurd (cc made)
  odeal (AsOMerge u) shape made ran told rest = absurd (cc made)
  odeal (AsMaster u) shape made ran told rest = absurd (cc made)
  odeal (AsWorker u) shape made ran told rest = absurd (cc made)

  omerge : (u : NetState N) → Rests u OMergeTurn
  omerge (AsOMerge u) shape made ran told rest free =
      let order : u.order ≡ OrderInTurn = ap order_of made in
      let places : u.places ≡ n = ap places_of made in
      subst (λ i. AwaitsIn i gots after ⊎ Rested i k gots puts after u.done) places
      (subst (λ j. AwaitsIn u.places gots after ⊎ Rested u.places j gots puts after u.done) (sym shape)
      (omerge_rests u gots puts (Ran-omerge b u gots puts ran) order told before after (subst (λ j. IsFree j after) shape free) rest))
    where
      order_of : NetState N → Order
      order_of (AsOMerge w) = w.order
      order_of w = OrderInTurn

      places_of : NetState N → ℕ
      places_of (AsOMerge w) = w.places
      places_of w = 0
  omerge (AsStage u) shape made ran told rest free = absurd (cc made)
  omerge (AsDeal u) shape made ran told rest free = absurd (cc made)
  omerge (AsMerge u) shape made ran told rest free = absurd (cc made)
  omerge (AsMaster u) shape made ran told rest free = absurd (cc made)
  omerge (AsWorker u) shape made ran told rest free = absurd (cc made)

  pub unit_rests : (kind : UnitKind) (u : NetState N) → Rests u kind
  unit_rests Stage u shape made ran told rest = stage u shape made ran told rest
  unit_rests DealRr u shape made ran told rest = deal_rr u shape made ran told rest
  unit_rests DealOd u shape made ran told rest = tt
  unit_rests (DealBy f) u shape made ran told rest = deal_by f u shape made ran told rest
  unit_rests Merge u shape made ran told rest = merge u shape made ran told rest
  unit_rests ODealRr u shape made ran told rest = odeal u shape made ran told rest
  unit_rests ODealOd u shape made ran told rest = tt
  unit_rests OMergeTurn u shape made ran told rest = omerge u shape made ran told rest
  unit_rests OMergePick u shape made ran told rest = tt
  unit_rests Master u shape made ran told rest = tt
  unit_rests Worker u shape made ran told rest = tt
