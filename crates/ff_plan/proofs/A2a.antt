-- The law of an all-to-all.
use Rattle.std.proofs.Common.{◌≡◌, ℕ, ◌+◌, ◌*◌, ◌≤◌, ◌⊎◌, true, false, List, ◌++◌, sym, ap, ap₂, ◌∙◌, subst, inl, inr}
use Rattle.std.proofs.lemmas.Bool.{or_from}
use Rattle.ff_rec.specs.Lines.{Rec}
use Rattle.ff_rec.specs.Weights.{weigh, Same}
use Rattle.ff_rec.proofs.WeightLaws.{weigh-append}
use Rattle.ff_node.specs.Behaviour.{Behaviour}
use Rattle.ff_node.specs.OnLists.{PlainGoesByRecords, UnorderedGoesByCounts, KeyedGoesByKeys}
use Rattle.ff_node.specs.Picks.{share}
use Rattle.ff_net.specs.declared.net.Route.{Route}
use Rattle.ff_net.specs.declared.net.Route.TheVariants.{By}
use Rattle.ff_net.specs.Forms.{has_wrap, is_ordered}
use Rattle.ff_net.specs.Good.{Good, PlainNode, KeyedNode}
use Rattle.ff_net.specs.Meaning.{mean, mean_rejected}
use Rattle.ff_net.specs.Places.{child}
use Rattle.ff_net.specs.RuleTests.{is_node}
use Rattle.ff_net.specs.Tree.{Tree, A2a}
use Rattle.ff_plan.specs.declared.kind.UnitKind.TheVariants.{Stage}
use Rattle.ff_plan.specs.Histories.{all_rejected}
use Rattle.ff_plan.specs.Laying.{copies, route_kind, lay, lay_sets}
use Rattle.ff_plan.proofs.FormLaws.{same_in_order, node_no_wrap}
use Rattle.ff_plan.proofs.Masters.{calm_of, NoMaster-lay}
use Rattle.ff_plan.proofs.MeanPlain.{no_wrap_fine, mean_additive, mean_rejected_additive}
use Rattle.ff_plan.proofs.Opens.{View, KnownOf, LawOf}
use Rattle.ff_plan.proofs.Routes.{AddsUp, AddsUp-additive, AddsUp-node, AddsUp-node_rejected}
use Rattle.ff_plan.proofs.SetFlows.{Flows, flows, known_sets, all_rejected-sets}
use Rattle.ff_plan.proofs.Shares.{Additive, total-weigh-share, total-weigh-additive}
use Rattle.ff_plan.proofs.Totals.{total, total-same}

-- the right node of an all-to-all is one node, or several that run as one
pub right_is_node : {N : Type 0} (b : Behaviour N) (r : Route) (t : Tree N) → PlainNode b t ⊎ KeyedNode b r t → is_node t ≡ true
right_is_node b r t (inl plain) = plain.0
right_is_node b r t (inr keyed) = ap is_node keyed.2

module _ {N : Type 0} (b : Behaviour N) (m : ℕ) (v : View N) (at : List ℕ) (form : Tree N) (n : ℕ) (l : Tree N) (r : Route) (k : ℕ) (t : Tree N) (i o e second third fourth fifth : ℕ) where
  module _ (goes : Additive (mean b m l)) (rejects : Additive (mean_rejected b m l)) (adds : AddsUp r k (mean b m t)) (adds_rejected : AddsUp r k (mean_rejected b m t)) where
    -- what the left set gives is together what its node means
    left_together : (xs : List Rec) (flow : Flows b m v at form n l r k t i o e second third fourth fifth xs) (h : Rec → ℕ) → total n (λ j. weigh h (flow.left.yss j)) ≡ weigh h (mean b m l xs)
    left_together xs flow h =
        total-same n (λ j. weigh h (flow.left.yss j)) (λ j. weigh h (mean b m l (share flow.picks xs j)))
        (λ j below. sym ((same_in_order (is_ordered l) _ (flow.left.yss j) (flow.left.same j below)).by h))
        ∙ total-weigh-additive (mean b m l) goes flow.dealt.are h

    -- and all that comes out is together what both mean
    pub all_together : (xs : List Rec) (flow : Flows b m v at form n l r k t i o e second third fourth fifth xs) → Same (mean b m t (mean b m l xs)) flow.merged.ys
    all_together xs flow = record {
      by = λ h.
          sym (adds n flow.left.yss flow.middle.columns flow.middle.deals flow.middle.merges (mean b m l xs) flow.middle.are flow.middle.by (left_together xs flow) h)
          ∙ total-same k (λ j. weigh h (mean b m t (flow.middle.columns j))) (λ j. weigh h (share flow.merged.picks flow.merged.ys j))
          (λ j below. (same_in_order (is_ordered t) _ (flow.right.yss j) (flow.right.same j below)).by h ∙ ap (weigh h) (sym (flow.merged.parts j below)))
          ∙ total-weigh-share flow.merged.are h;
    }

    -- what both sets reject is what their nodes reject along the way
    all_rejects : (xs : List Rec) (flow : Flows b m v at form n l r k t i o e second third fourth fifth xs) → v.Whole
        → Same (mean_rejected b m l xs ++ mean_rejected b m t (mean b m l xs)) (all_rejected b (lay_sets at form n l (route_kind r) k t i o e second third fourth fifth) v.edge)
    all_rejects xs flow whole = record {
      by = λ h.
          weigh-append h (mean_rejected b m l xs) (mean_rejected b m t (mean b m l xs))
          ∙ ap₂ ◌+◌
          (sym (total-weigh-additive (mean_rejected b m l) rejects flow.dealt.are h) ∙ flow.left.rejects whole h)
          (sym (adds_rejected n flow.left.yss flow.middle.columns flow.middle.deals flow.middle.merges (mean b m l xs) flow.middle.are flow.middle.by (left_together xs flow) h) ∙ flow.right.rejects whole h)
          ∙ sym (weigh-append h (all_rejected b (copies Stage (child at 1) l e second n) v.edge) (all_rejected b (copies Stage (child at 2) t fourth fifth k) v.edge))
          ∙ ap (weigh h) (sym (all_rejected-sets b m v at form n l r k t i o e second third fourth fifth v.edge));
    }

module _ {N : Type 0} (b : Behaviour N) (by_records : PlainGoesByRecords b) (by_counts : UnorderedGoesByCounts b) (by_keys : KeyedGoesByKeys b) (m : ℕ) where
  -- what the right node makes of the columns is together what it makes of all records
  pub adds_up : (r : Route) (k : ℕ) (t : Tree N) → 1 ≤ k → has_wrap t ≡ false → PlainNode b t ⊎ KeyedNode b r t → AddsUp r k (mean b m t) × AddsUp r k (mean_rejected b m t)
  adds_up r k t some free (inl plain) = (
    AddsUp-additive r k (mean b m t) (mean_additive b by_records m t plain.1 free),
    AddsUp-additive r k (mean_rejected b m t) (mean_rejected_additive b by_records m t plain.1 free),
  )
  adds_up r k t some free (inr keyed) =
      let keys = by_keys keyed.0 keyed.1 keyed.3 in
      let counts = by_counts keyed.0 (λ ordered. absurd (cc (ordered, keyed.3))) in
      let node_adds = AddsUp-node b keyed.1 keyed.0 keys counts k some in
      let rejected_adds = AddsUp-node_rejected b keyed.1 keyed.0 keys counts k some in
      let P : Route → Tree N → Type 0 = λ way u. AddsUp way k (mean b m u) × AddsUp way k (mean_rejected b m u) in
      subst (λ way. P way t) (sym keyed.4) (subst (P (By keyed.1)) (sym keyed.2) (node_adds, rejected_adds))

  -- the law, where each set's node has its own
  pub law_a2a : (v : View N) (n : ℕ) (l : Tree N) (r : Route) (k : ℕ) (t : Tree N) → LawOf b m v l → LawOf b m v t → Good b (A2a n l r k t) → LawOf b m v (A2a n l r k t)
  law_a2a v n l r k t law_l law_t good at i o e logs xs known from =
      let form : Tree N = A2a n l r k t in
      let node_l = good.3.0 in
      let node_t = right_is_node b r t good.4 in
      let free_l = node_no_wrap b l node_l good.5 in
      let free_t = node_no_wrap b t node_t good.6 in
      let free : has_wrap form ≡ false = or_from (has_wrap l) (has_wrap t) free_l free_t in
      let third = e + 2 * n in
      let fourth = third + n * k in
      let sets = known_sets b m v at form n l r k t i o e (e + n) third fourth (fourth + k) logs known in
      let flow = flows b m v at form n l r k t i o e (e + n) third fourth (fourth + k) law_l law_t node_l node_t free_l free_t xs sets from in
      let goes = mean_additive b by_records m l good.3.1 free_l in
      let rejects = mean_rejected_additive b by_records m l good.3.1 free_l in
      let adds = adds_up r k t good.1.0 free_t good.4 in
      inl (record {
        fine = no_wrap_fine b m form free xs;
        ys = flow.merged.ys;
        out = flow.merged.out;
        same = all_together b m v at form n l r k t i o e (e + n) third fourth (fourth + k) goes rejects adds.0 adds.1 xs flow;
        rejects = all_rejects b m v at form n l r k t i o e (e + n) third fourth (fourth + k) goes rejects adds.0 adds.1 xs flow;
        calm = calm_of v (λ u log. KnownOf b m v u.row.kind u log) (lay at form i o e) logs (NoMaster-lay form at i o e free) known;
      })
