-- The law on messages, of every network without wraps and without choices.
use Rattle.std.proofs.Common.{◌≡◌, ℕ, ◌+◌, ◌≤◌, false, ◌||◌, List, [], ◌∷◌, ◌++◌, length, refl, sym, ap, ◌∙◌, subst, arith, length-append, append_assoc}
use Rattle.std.proofs.lemmas.Bool.{true≢false, or_parts, or_from}
use Rattle.std.proofs.lemmas.List.{length-map}
use Rattle.ff_rec.specs.Lines.{Rec}
use Rattle.ff_rec.specs.Streams.{carried, unaborted, GoesOn, IsOpen, IsOpenMsg}
use Rattle.ff_rec.specs.declared.msg.Msg.TheVariants.{Item, Mark, Pick, Eos, Abort}
use Rattle.ff_rec.specs.Weights.{weigh}
use Rattle.ff_node.specs.Behaviour.{Behaviour}
use Rattle.ff_node.specs.Runs.{Message}
use Rattle.ff_net.specs.declared.net.Sched.TheVariants.{Rr as InTurn, Od as OnDemand}
use Rattle.ff_net.specs.Counts.{inner_edges, edges}
use Rattle.ff_net.specs.Forms.{has_wrap, any_wrap, has_choice, any_choice, goes_on_demand}
use Rattle.ff_net.specs.Good.{Good, GoodParts}
use Rattle.ff_net.specs.Logs.{Event}
use Rattle.ff_net.specs.Meaning.{mean}
use Rattle.ff_net.specs.Tree.{Tree, Trees, Leaf, Pipe, Comb, Farm, OFarm, A2a, Wrap, none, more}
use Rattle.ff_plan.specs.Histories.{IsPartial}
use Rattle.ff_plan.specs.Laying.{units_of}
use Rattle.ff_plan.specs.Rows.{range}
use Rattle.ff_plan.proofs.NetLaws.{AreNodes}
use Rattle.ff_plan.proofs.Opens.{View, Known, LawOf}
use Rattle.ff_plan.proofs.Ranges.{range-cut}
use Rattle.ff_plan.proofs.Runs.{known_whole, known_cut}
use Rattle.ff_plan.proofs.Views.{whole_view, cut_view}
use Rattle.ff_plan.proofs.WeighedOuts.{outs-lay}
use Rattle.ff_plan.specs.Traffic.{passes}
use Rattle.ff_plan.specs.TrafficLaws.{Traffic, EndsOnce, TrafficSoFar}
use Rattle.ff_plan.proofs.OrderTraffic.{traffic_ofarm, traffic_a2a}
use Rattle.ff_plan.proofs.Traffic.{TrafficOf, EachTraffic, out_few, traffic_leaf, traffic_comb, traffic_pipe, traffic_farm}

-- where nothing chooses, no wrap stands
module _ {N : Type 0} where
  mutual
    pub choice_no_wrap : (t : Tree N) → has_choice t ≡ false → has_wrap t ≡ false
    choice_no_wrap (Leaf o) fixed = refl
    choice_no_wrap (Pipe ts) fixed = choice_no_wraps ts fixed
    choice_no_wrap (Comb ts) fixed = choice_no_wraps ts fixed
    choice_no_wrap (Farm n OnDemand w) fixed = absurd (true≢false fixed)
    choice_no_wrap (Farm n InTurn w) fixed = choice_no_wrap w fixed
    choice_no_wrap (OFarm n OnDemand w) fixed = absurd (true≢false fixed)
    choice_no_wrap (OFarm n InTurn w) fixed = choice_no_wrap w fixed
    choice_no_wrap (A2a n l r k t) fixed =
        let sets = or_parts (has_choice l) (has_choice t) (or_parts (goes_on_demand r) (has_choice l || has_choice t) fixed).1 in
        or_from (has_wrap l) (has_wrap t) (choice_no_wrap l sets.0) (choice_no_wrap t sets.1)
    choice_no_wrap (Wrap n w p) fixed = absurd (true≢false fixed)

    choice_no_wraps : (ts : Trees N) → any_choice ts ≡ false → any_wrap ts ≡ false
    choice_no_wraps none fixed = refl
    choice_no_wraps (more t ts) fixed =
        let parts = or_parts (has_choice t) (any_choice ts) fixed in
        or_from (has_wrap t) (any_wrap ts) (choice_no_wrap t parts.0) (choice_no_wraps ts parts.1)

module _ {N : Type 0} (b : Behaviour N) (nodes : AreNodes b) (m : ℕ) (v : View N) (laws : (t : Tree N) → Good b t → LawOf b m v t)
    (sz : ℕ → ℕ) (fits : (e : ℕ) (ms : List Message) → v.Out e ms → sz e ≤ length ms + 1) where
  mutual
    pub traffic_net : (t : Tree N) → Good b t → has_choice t ≡ false → TrafficOf b m v sz fits t
    traffic_net (Leaf o) good fixed = traffic_leaf b m v sz fits o
    traffic_net (Comb ts) good fixed = traffic_comb b m v sz fits ts
    traffic_net (Pipe ts) good fixed = traffic_pipe b m v sz fits nodes.by_counts ts good.0.0 good.1 (choice_no_wrap (Pipe ts) fixed) (traffic_each ts good.1 fixed)
    traffic_net (Farm n OnDemand w) good fixed = absurd (true≢false fixed)
    traffic_net (Farm n InTurn w) good fixed =
        traffic_farm b m v sz fits nodes.by_records n InTurn w good.1 good.2 (laws w good.3) (traffic_net w good.3 fixed)
    traffic_net (OFarm n OnDemand w) good fixed = absurd (true≢false fixed)
    traffic_net (OFarm n InTurn w) good fixed = traffic_ofarm b m v sz fits nodes.keeps nodes.combed nodes.law w good.2 good.3 good.1 n
    traffic_net (A2a n l r k t) good fixed =
        traffic_a2a b m v sz fits nodes.by_records nodes.by_counts nodes.by_keys n l r k t (laws l good.5) (laws t good.6) good
    traffic_net (Wrap n w p) good fixed = absurd (true≢false fixed)

    traffic_each : (ts : Trees N) → GoodParts b ts → any_choice ts ≡ false → EachTraffic b m v sz fits ts
    traffic_each none good fixed = tt
    traffic_each (more t ts) good fixed =
        let parts = or_parts (has_choice t) (any_choice ts) fixed in
        ((laws t good.0, traffic_net t good.0 parts.0), traffic_each ts good.1 parts.1)

  -- all edges together
  pub traffic_edges : (t : Tree N) → Good b t → has_choice t ≡ false → (logs : List (List Event)) (xs : List Rec) → Known b m v (units_of t) logs → v.In 0 (carried xs)
      → sz 0 ≤ length xs + 1 → weigh sz (range 0 (edges t)) ≤ passes b m t xs + (length xs + 1) + inner_edges t + sz 1
  traffic_edges t good fixed logs xs known from first =
      let all = traffic_net t good fixed [] 0 1 2 logs xs known from in
      let k = inner_edges t in
      let two : k + 2 ≡ 2 + k = omega arith in
      omega (arith, all, first, outs-lay sz b t good [] 0 1 2, range-cut sz 0 2 2 k (k + 2) two refl)

  pub last_few : (t : Tree N) → Good b t → has_choice t ≡ false → (logs : List (List Event)) (xs : List Rec) → Known b m v (units_of t) logs → v.In 0 (carried xs)
      → sz 1 ≤ length (mean b m t xs) + 1
  last_few t good fixed logs xs known from = out_few b m v sz fits t (choice_no_wrap t fixed) (laws t good) [] 0 1 2 logs xs known from

module _ {N : Type 0} (b : Behaviour N) (nodes : AreNodes b) (m : ℕ) (t : Tree N) (good : Good b t) (fixed : has_choice t ≡ false) where
  -- a whole run
  pub traffic_whole : ((edge : ℕ → List Message) (u : Tree N) → Good b u → LawOf b m (whole_view b m edge) u) → Traffic b m t
  traffic_whole laws edge logs xs history fed =
      let view = whole_view b m edge in
      let size : ℕ → ℕ = λ e. length (edge e) + 1 in
      let fits : (e : ℕ) (ms : List Message) → ms ≡ edge e → size e ≤ length ms + 1 = λ e ms is. let same = ap length is in omega (arith, same) in
      let known = known_whole b m edge (units_of t) logs history in
      let first : size 0 ≤ length xs + 1 = (let same = ap length fed in omega (arith, same, length-map xs (λ (x : Rec). Item x))) in
      omega (
        arith,
        traffic_edges b nodes m view (laws edge) size fits t good fixed logs xs known (sym fed) first,
        last_few b nodes m view (laws edge) size fits t good fixed logs xs known (sym fed),
      )

-- what was put on an edge is at most one longer than each list that it goes on to
unaborted-front : (front back : List Message) → IsOpen front → (rest : List Message) × (unaborted (front ++ back) ≡ front ++ rest)
unaborted-front [] back inner = (unaborted back, refl)
unaborted-front (Item x ∷ front) back inner = let rest = unaborted-front front back inner.1 in (rest.0, ap (λ l. Item x ∷ l) rest.1)
unaborted-front (Mark ∷ front) back inner = let rest = unaborted-front front back inner.1 in (rest.0, ap (λ l. Mark ∷ l) rest.1)
unaborted-front (Pick w ∷ front) back inner = let rest = unaborted-front front back inner.1 in (rest.0, ap (λ l. Pick w ∷ l) rest.1)
unaborted-front (Eos ∷ front) back inner = absurd inner.0
unaborted-front (Abort ∷ front) back inner = absurd inner.0

open_short : (front rest ms : List Message) → IsOpen front → ms ++ Eos ∷ [] ≡ front ++ rest → length front ≤ length ms
open_short [] rest ms inner is = omega arith
open_short (f ∷ front) rest [] inner is = let first : Eos ≡ f = cc is in absurd (subst IsOpenMsg (sym first) inner.0)
open_short (f ∷ front) rest (m ∷ ms) inner is = let more = open_short front rest ms inner.1 (cc is) in omega (arith, more)

pub few_put : (p ms : List Message) → EndsOnce p → GoesOn (unaborted p) ms → length p ≤ length ms + 1
few_put p ms once goes =
    let rest = unaborted-front once.front once.back once.inner in
    let short = open_short once.front (rest.0 ++ goes.more) ms once.inner
    (goes.is ∙ ap (λ l. l ++ goes.more) (ap unaborted once.is ∙ rest.1) ∙ append_assoc once.front rest.0 goes.more) in
    omega (arith, short, once.few, ap length once.is, length-append once.front once.back)

module _ {N : Type 0} (b : Behaviour N) (nodes : AreNodes b) (m : ℕ) (t : Tree N) (good : Good b t) (fixed : has_choice t ≡ false) where
  -- a moment of a run
  module _ (laws : (got put : ℕ → List Message) (first : (e : ℕ) → (rest : List Message) × (put e ≡ got e ++ rest)) (u : Tree N) → Good b u → LawOf b m (cut_view b m got put first) u) where
    -- with any sizes that are no more than those of what was put
    pub traffic_moment : (sz : ℕ → ℕ) (got put : ℕ → List Message) (logs : List (List Event)) (xs : List Rec) → IsPartial b m (units_of t) got put logs → GoesOn (unaborted (put 0)) (carried xs)
        → ((e : ℕ) → EndsOnce (put e)) → ((e : ℕ) → sz e ≤ length (put e))
        → weigh sz (range 0 (edges t)) ≤ passes b m t xs + (length xs + 1) + inner_edges t + sz 1
    traffic_moment sz got put logs xs partial goes once small =
        let view = cut_view b m got put partial.first in
        let fits : (e : ℕ) (ms : List Message) → GoesOn (unaborted (put e)) ms → sz e ≤ length ms + 1 = λ e ms out. let few = few_put (put e) ms (once e) out in omega (arith, few, small e) in
        let first : sz 0 ≤ length xs + 1 = (let few = few_put (put 0) (carried xs) (once 0) goes in omega (arith, few, small 0, length-map xs (λ (x : Rec). Item x))) in
        traffic_edges b nodes m view (laws got put partial.first) sz fits t good fixed logs xs (known_cut b m got put partial.first (units_of t) logs partial.begins) (view.link 0 (carried xs) goes) first

    pub traffic_so_far : TrafficSoFar b m t
    traffic_so_far got put logs xs partial goes once =
        let view = cut_view b m got put partial.first in
        let size : ℕ → ℕ = λ e. length (put e) in
        let fits : (e : ℕ) (ms : List Message) → GoesOn (unaborted (put e)) ms → size e ≤ length ms + 1 = λ e ms out. few_put (put e) ms (once e) out in
        let known = known_cut b m got put partial.first (units_of t) logs partial.begins in
        omega (
          arith,
          traffic_moment size got put logs xs partial goes once (λ e. omega arith),
          last_few b nodes m view (laws got put partial.first) size fits t good fixed logs xs known (view.link 0 (carried xs) goes),
        )
