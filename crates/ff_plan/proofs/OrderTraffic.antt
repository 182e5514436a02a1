-- The messages on the edges of an ordered farm and of an all-to-all.
use Rattle.std.proofs.Common.{◌≡◌, ℕ, zero, suc, ◌+◌, ◌*◌, ◌-◌, ◌<◌, ◌≤◌, true, false, List, [], ◌∷◌, ◌++◌, length, map, refl, sym, ap, ◌∙◌, subst, arith, length-append, append-nil}
use Rattle.std.proofs.lemmas.Bool.{false≢true, or_from, and_parts}
use Rattle.std.proofs.lemmas.List.{length-map}
use Rattle.ff_rec.specs.Lines.{Rec}
use Rattle.ff_rec.specs.Streams.{carried}
use Rattle.ff_rec.specs.declared.msg.Msg.TheVariants.{Mark}
use Rattle.ff_rec.specs.Weights.{weigh}
use Rattle.ff_rec.proofs.WeightLaws.{weigh-one, Same-length}
use Rattle.ff_node.specs.Behaviour.{Behaviour, KeepsKind}
use Rattle.ff_node.specs.Classes.{ClassLaw}
use Rattle.ff_node.specs.Comb.{CombIsPipeline}
use Rattle.ff_node.specs.Fits.{marked, grouped}
use Rattle.ff_node.specs.OnLists.{PlainGoesByRecords, UnorderedGoesByCounts, KeyedGoesByKeys}
use Rattle.ff_node.specs.OnListsLaws.{plain_goes_by_records}
use Rattle.ff_node.specs.Picks.{share}
use Rattle.ff_node.specs.Runs.{Message}
use Rattle.ff_net.specs.declared.net.Sched.TheVariants.{Rr as InTurn}
use Rattle.ff_net.specs.declared.net.Route.{Route}
use Rattle.ff_net.specs.Counts.{count, inner_edges, all_inner_edges}
use Rattle.ff_net.specs.Forms.{has_wrap, is_ordered}
use Rattle.ff_net.specs.Good.{ArePlain, EachPlain, Good, GoodParts}
use Rattle.ff_net.specs.Logs.{Event}
use Rattle.ff_net.specs.Meaning.{mean, mean_through}
use Rattle.ff_net.specs.Places.{child}
use Rattle.ff_net.specs.RuleTests.{is_node, are_nodes, is_pipeline}
use Rattle.ff_net.specs.Tree.{Tree, Trees, Leaf, Pipe, Comb, Farm, OFarm, A2a, Wrap, none, more}
use Rattle.ff_plan.specs.declared.kind.UnitKind.TheVariants.{Stage, Merge, OMergeTurn}
use Rattle.ff_plan.specs.Laying.{lay, lay_parts, lay_copies, copies, row_deals, column_merges, route_kind}
use Rattle.ff_plan.specs.Rows.{Laid, laid, range}
use Rattle.ff_plan.proofs.A2a.{right_is_node, adds_up, all_together}
use Rattle.ff_plan.proofs.Alone.{mean-alone}
use Rattle.ff_plan.proofs.Columns.{total-weigh-columns}
use Rattle.ff_plan.proofs.Copies.{total-first}
use Rattle.ff_plan.proofs.EdgeLists.{OnRange-at, OnRange-each, suc-times}
use Rattle.ff_plan.proofs.FormLaws.{same_in_order, node_no_wrap, pipeline_no_wrap}
use Rattle.ff_plan.proofs.GroupLaws.{groups_of_node}
use Rattle.ff_plan.proofs.Grouped.{joined, joined-ones, joined-each, marked-grouped}
use Rattle.ff_plan.proofs.MeanPlain.{mean_additive, mean_rejected_additive}
use Rattle.ff_plan.proofs.ODealing.{deals_in_order}
use Rattle.ff_plan.proofs.Opens.{View, Known, LawOf}
use Rattle.ff_plan.proofs.Ranges.{range-cut}
use Rattle.ff_plan.proofs.Routes.{rows_dealt}
use Rattle.ff_plan.proofs.SetFlows.{flows, known_sets}
use Rattle.ff_plan.proofs.Sets.{lay-node}
use Rattle.ff_plan.proofs.Totals.{total, total-same, total-plus}
use Rattle.ff_plan.proofs.UnitLists.{OnRange, EachUnit-append}
use Rattle.ff_plan.proofs.WeighedRows.{weigh_outs, outs-append, outs-copies, outs-row_deals, outs-column_merges}
use Rattle.ff_plan.specs.Traffic.{parts_of, passes, passes_through}
use Rattle.ff_plan.proofs.Counted.{counted-times, counted-length, passes_counted, length_counted}
use Rattle.ff_plan.proofs.Traffic.{total_counted, length_shares, range_sizes, TrafficOf, carries_few}

-- how long groups are
length-group : (xs : List Rec) → length (carried xs ++ Mark ∷ []) ≡ length xs + 1
length-group [] = refl
length-group (x ∷ xs) = omega (arith, length-group xs)

length-grouped : (gs : List (List Rec)) → length (grouped gs) ≡ length (joined gs) + length gs
length-grouped [] = refl
length-grouped (g ∷ gs) =
    omega (arith, length-append (carried g ++ Mark ∷ []) (grouped gs), length-group g, length-grouped gs, length-append g (joined gs))

length-marked : (xs : List Rec) → length (marked xs) ≡ 2 * length xs
length-marked [] = refl
length-marked (x ∷ xs) = omega (arith, length-marked xs)

-- sizes of rows of edges, `k` in each
row_sizes : (sz : ℕ → ℕ) (f : ℕ → ℕ) (c k n : ℕ) → ((j : ℕ) → j < n → weigh sz (range (c + j * k) k) ≤ f j + k) → weigh sz (range c (n * k)) ≤ total n f + n * k
row_sizes sz f c k zero each =
    let none : zero * k ≡ 0 = omega arith in
    subst (λ l. weigh sz (range c l) ≤ total zero f + l) (sym none) (omega arith)
row_sizes sz f c k (suc n) each =
    let first : c + 0 * k ≡ c = omega arith in
    let many : suc n * k ≡ k + n * k = omega arith in
    let here = each 0 (omega arith) in
    let rest = row_sizes sz (λ j. f (suc j)) (c + k) k n (λ j below.
    let next : c + suc j * k ≡ c + k + j * k = omega (arith, suc-times j k) in
    let there = each (suc j) (omega (arith, below)) in
    omega (arith, there, ap (λ d. weigh sz (range d k)) next)) in
    omega (arith, here, rest, many, ap (λ d. weigh sz (range d k)) first, total-first n f, range-cut sz c (c + k) k (n * k) (suc n * k) many refl)

module _ {N : Type 0} (b : Behaviour N) (m : ℕ) (v : View N) (sz : ℕ → ℕ) (fits : (e : ℕ) (ms : List Message) → v.Out e ms → sz e ≤ length ms + 1) where
  module _ (keeps : KeepsKind b) (combed : CombIsPipeline b) (law : (o : N) → ClassLaw b o (b.class o)) where
    -- a node on groups
    node_groups : (t : Tree N) → is_node t ≡ true → Good b t → ArePlain b t → (place : List ℕ) (i o e : ℕ) (logs : List (List Event)) (gs : List (List Rec))
        → Known b m v (lay place t i o e) logs → v.In i (grouped gs) → weigh_outs sz (lay place t i o e) ≤ length (mean b m t (joined gs)) + length gs + 1
    node_groups t is good plain place i o e logs gs known from =
        let given = groups_of_node b keeps combed law m v t is good plain place i o e logs gs known from in
        let few = fits o (grouped (map (mean b m t) gs)) given.out in
        omega (
          arith,
          few,
          length-grouped (map (mean b m t) gs),
          length-map gs (mean b m t),
          ap length (joined-each (mean b m t) (mean-alone b m (plain_goes_by_records b law) t plain (node_no_wrap b t is good)) gs),
          ap (λ ls. weigh_outs sz ls) (lay-node place t is i o e),
        )

    -- nodes one behind another
    parts_groups : (ts : Trees N) → are_nodes ts ≡ true → GoodParts b ts → EachPlain b ts → 1 ≤ count ts → (place : List ℕ) (k i o j e : ℕ) (logs : List (List Event)) (gs : List (List Rec))
        → Known b m v (lay_parts place k ts i o j e) logs → v.In i (grouped gs)
        → weigh_outs sz (lay_parts place k ts i o j e)
        ≤ passes_through b m ts (joined gs) + ((count ts - 1) + all_inner_edges ts) + count ts * length gs + length (mean_through b m ts (joined gs)) + 1
    parts_groups none are good plain some place k i o j e logs gs known from = absurd (omega (arith, some))
    parts_groups (more t none) are good plain some place k i o j e logs gs known from =
        omega (arith, node_groups t (and_parts (is_node t) true are).0 good.0 plain.0 (child place k) i o e logs gs known from)
    parts_groups (more t (more u us)) are good plain some place k i o j e logs gs known from =
        let both = and_parts (is_node t) (are_nodes (more u us)) are in
        let ls = lay (child place k) t i j e in
        let ks = lay_parts place (k + 1) (more u us) j o (suc j) (e + inner_edges t) in
        let split = EachUnit-append _ ls ks logs known in
        let first = node_groups t both.0 good.0 plain.0 (child place k) i j e split.front gs split.left from in
        let given = groups_of_node b keeps combed law m v t both.0 good.0 plain.0 (child place k) i j e split.front gs split.left from in
        let rest = parts_groups (more u us) both.1 good.1 plain.1 (omega arith) place (k + 1) j o (suc j) (e + inner_edges t) split.back (map (mean b m t) gs) split.right
        (v.link j (grouped (map (mean b m t) gs)) given.out) in
        let same = joined-each (mean b m t) (mean-alone b m (plain_goes_by_records b law) t plain.0 (node_no_wrap b t both.0 good.0)) gs in
        let c = count (more u us) in
        let one : c + 1 ≡ suc c = omega arith in
        omega (
          arith,
          first,
          rest,
          outs-append sz ls ks,
          ap (passes_through b m (more u us)) same,
          ap (λ ys. length (mean_through b m (more u us) ys)) same,
          ap (λ l. c * l) (length-map gs (mean b m t)),
          ap (λ l. l * length gs) one,
          suc-times c (length gs),
        )

    -- a pipeline
    pipeline_groups : (t : Tree N) → is_pipeline t ≡ true → Good b t → ArePlain b t → (place : List ℕ) (i o e : ℕ) (logs : List (List Event)) (gs : List (List Rec))
        → Known b m v (lay place t i o e) logs → v.In i (grouped gs)
        → weigh_outs sz (lay place t i o e) ≤ passes b m t (joined gs) + inner_edges t + parts_of t * length gs + length (mean b m t (joined gs)) + 1
    pipeline_groups (Leaf n) is good plain place i o e logs gs known from = omega (arith, node_groups (Leaf n) is good plain place i o e logs gs known from)
    pipeline_groups (Comb ts) is good plain place i o e logs gs known from = omega (arith, node_groups (Comb ts) is good plain place i o e logs gs known from)
    pipeline_groups (Pipe ts) is good plain place i o e logs gs known from = parts_groups ts is good.1 plain good.0.0 place 1 i o e (e + (count ts - 1)) logs gs known from
    pipeline_groups (Farm n s w) is good plain place i o e logs gs known from = absurd (false≢true is)
    pipeline_groups (OFarm n s w) is good plain place i o e logs gs known from = absurd (false≢true is)
    pipeline_groups (A2a n l r k t) is good plain place i o e logs gs known from = absurd (false≢true is)
    pipeline_groups (Wrap n w p) is good plain place i o e logs gs known from = absurd (false≢true is)

    module _ (w : Tree N) (line : is_pipeline w ≡ true) (good : Good b w) (plain : ArePlain b w) where
      -- each record in a group of its own
      workers_groups : (place : List ℕ) (width i o e n : ℕ) (logs : List (List Event)) (xss : ℕ → List Rec) → Known b m v (lay_copies (lay place w) width i o e n) logs
          → OnRange v.In i n (λ j. marked (xss j))
          → weigh_outs sz (lay_copies (lay place w) width i o e n)
          ≤ total n (λ j. passes b m w (xss j) + (parts_of w * length (xss j) + length (mean b m w (xss j)))) + n * inner_edges w + n
      workers_groups place width i o e zero logs xss known from = omega arith
      workers_groups place width i o e (suc n) logs xss known from =
          let ls = lay place w i o e in
          let ks = lay_copies (lay place w) width (suc i) (suc o) (e + width) n in
          let split = EachUnit-append _ ls ks logs known in
          let gs : List (List Rec) = map (λ x. x ∷ []) (xss 0) in
          let first = pipeline_groups w line good plain place i o e split.front gs split.left (subst (v.In i) (marked-grouped (xss 0)) from.0) in
          let rest = workers_groups place width (suc i) (suc o) (e + width) n split.back (λ j. xss (suc j)) split.right from.1 in
          omega (
            arith,
            first,
            rest,
            outs-append sz ls ks,
            ap (passes b m w) (joined-ones (xss 0)),
            ap (λ ys. length (mean b m w ys)) (joined-ones (xss 0)),
            ap (λ l. parts_of w * l) (length-map (xss 0) (λ (x : Rec). x ∷ [])),
            total-first n (λ j. passes b m w (xss j) + (parts_of w * length (xss j) + length (mean b m w (xss j)))),
            suc-times n (inner_edges w),
          )

      pub traffic_ofarm : (n : ℕ) → TrafficOf b m v sz fits (OFarm n InTurn w)
      traffic_ofarm n at i o e [] xs known from = absurd known
      traffic_ofarm n at i o e (log ∷ logs) xs known from =
          let form : Tree N = OFarm n InTurn w in
          let free = pipeline_no_wrap b w line good in
          let by_records = plain_goes_by_records b law in
          let workers = lay_copies (lay (child at 1) w) (inner_edges w) e (e + n) (e + 2 * n + 0) n in
          let merge : Laid N = laid OMergeTurn (range (e + n) n ++ []) (o ∷ []) at form in
          let split = EachUnit-append _ workers (merge ∷ []) logs known.1 in
          let dealt = deals_in_order b m v at form log InTurn i e n (e + 2 * n) xs known.0 from in
          let shares : ℕ → List Rec = share dealt.picks xs in
          let taken : OnRange v.In e n (λ j. marked (shares j)) =
          OnRange-each v.In e n (λ j. marked (shares j)) (λ j below. v.link (e + j) (marked (shares j)) (OnRange-at v.Out e n (λ k. marked (shares k)) dealt.out j below)) in
          let deal = range_sizes sz (λ j. length (shares j) + length (shares j)) e n (λ j below.
          let few = fits (e + j) (marked (shares j)) (OnRange-at v.Out e n (λ k. marked (shares k)) dealt.out j below) in
          omega (arith, few, length-marked (shares j))) in
          let inside = workers_groups (child at 1) (inner_edges w) e (e + n) (e + 2 * n + 0) n split.front shares split.left taken in
          let p = parts_of w in
          let one : p + 1 ≡ suc p = omega arith in
          omega (
            arith,
            deal,
            inside,
            outs-append sz workers (merge ∷ []),
            ap (weigh sz) (append-nil (range e n)),
            length_shares n dealt.picks xs dealt.are,
            total-plus n (λ j. length (shares j)) (λ j. length (shares j)),
            total-plus n (λ j. passes b m w (shares j)) (λ j. p * length (shares j) + length (mean b m w (shares j))),
            total-plus n (λ j. p * length (shares j)) (λ j. length (mean b m w (shares j))),
            total_counted (passes b m w) (passes_counted b by_records m w plain free) n dealt.picks xs dealt.are,
            total_counted (λ ys. length (mean b m w ys)) (length_counted b by_records m w plain free) n dealt.picks xs dealt.are,
            total_counted (λ ys. p * length ys) (counted-times p (λ ys. length ys) counted-length) n dealt.picks xs dealt.are,
            ap (λ l. l * length xs) one,
            suc-times p (length xs),
          )

  -- an all-to-all
  module _ (by_records : PlainGoesByRecords b) (by_counts : UnorderedGoesByCounts b) (by_keys : KeyedGoesByKeys b) where
    pub traffic_a2a : (n : ℕ) (l : Tree N) (r : Route) (k : ℕ) (t : Tree N) → LawOf b m v l → LawOf b m v t → Good b (A2a n l r k t)
        → TrafficOf b m v sz fits (A2a n l r k t)
    traffic_a2a n l r k t law_l law_t good at i o e logs xs known from =
        let form : Tree N = A2a n l r k t in
        let node_l = good.3.0 in
        let node_t = right_is_node b r t good.4 in
        let free_l = node_no_wrap b l node_l good.5 in
        let free_t = node_no_wrap b t node_t good.6 in
        let free : has_wrap form ≡ false = or_from (has_wrap l) (has_wrap t) free_l free_t in
        let second = e + n in
        let third = e + 2 * n in
        let fourth = third + n * k in
        let fifth = fourth + k in
        let sets = known_sets b m v at form n l r k t i o e second third fourth fifth logs known in
        let flow = flows b m v at form n l r k t i o e second third fourth fifth law_l law_t node_l node_t free_l free_t xs sets from in
        let adds = adds_up b by_records by_counts by_keys m r k t good.1.0 free_t good.4 in
        let goes = mean_additive b by_records m l good.3.1 free_l in
        let rejects = mean_rejected_additive b by_records m l good.3.1 free_l in
        let together = all_together b m v at form n l r k t i o e second third fourth fifth goes rejects adds.0 adds.1 xs flow in
        let us = flow.left.yss in
        let left_outs : (j : ℕ) → j < n → v.Out (second + j) (carried (us j)) = OnRange-at v.Out second n (λ j. carried (us j)) flow.left.outs in
        let right_outs : (j : ℕ) → j < k → v.Out (fifth + j) (carried (flow.right.yss j)) = OnRange-at v.Out fifth k (λ j. carried (flow.right.yss j)) flow.right.outs in
        let rows = rows_dealt b m v at form r second third n k sets.row_logs us sets.rows (λ j below. v.link (second + j) (carried (us j)) (left_outs j below)) in
        let lefts = copies Stage (child at 1) l e second n in
        let deals = row_deals (route_kind r) at form k second third n in
        let merges = column_merges at form n k third fourth k in
        let rights = copies Stage (child at 2) t fourth fifth k in
        let last : List (Laid N) = laid Merge (range fifth k) (o ∷ []) at form ∷ [] in
        let size_first = range_sizes sz (λ j. length (share flow.picks xs j)) e n (λ j below. carries_few b m v sz fits (e + j) (share flow.picks xs j) (flow.dealt.out j below)) in
        let size_left = range_sizes sz (λ j. length (us j)) second n (λ j below. carries_few b m v sz fits (second + j) (us j) (left_outs j below)) in
        let size_rows = row_sizes sz (λ j. length (us j)) third k n (λ j below.
        let dealt = rows.each j below in
        let row = range_sizes sz (λ q. length (share (rows.deals j) (us j) q)) (third + j * k) k (λ q low. carries_few b m v sz fits (third + j * k + q) (share (rows.deals j) (us j) q) (dealt.out q low)) in
        omega (arith, row, length_shares k (rows.deals j) (us j) dealt.are)) in
        let size_columns = range_sizes sz (λ j. length (flow.middle.columns j)) fourth k (λ j below. carries_few b m v sz fits (fourth + j) (flow.middle.columns j) (flow.middle.out j below)) in
        let size_right = range_sizes sz (λ j. length (flow.right.yss j)) fifth k (λ j below. carries_few b m v sz fits (fifth + j) (flow.right.yss j) (right_outs j below)) in
        let lefts_are : total n (λ j. length (us j)) ≡ length (mean b m l xs) =
        total-same n (λ j. length (us j)) (λ j. length (mean b m l (share flow.picks xs j)))
        (λ j below. sym (Same-length (same_in_order (is_ordered l) (mean b m l (share flow.picks xs j)) (us j) (flow.left.same j below))))
        ∙ total_counted (λ ys. length (mean b m l ys)) (length_counted b by_records m l good.3.1 free_l) n flow.picks xs flow.dealt.are in
        let columns_are : total k (λ j. length (flow.middle.columns j)) ≡ total n (λ j. length (us j)) =
        total-same k (λ j. length (flow.middle.columns j)) (λ j. weigh (λ _. 1) (flow.middle.columns j)) (λ j below. sym (weigh-one (flow.middle.columns j)))
        ∙ total-weigh-columns flow.middle.are (λ _. 1)
        ∙ total-same n (λ j. weigh (λ _. 1) (us j)) (λ j. length (us j)) (λ j below. weigh-one (us j)) in
        let rights_are : total k (λ j. length (flow.right.yss j)) ≡ length flow.merged.ys =
        total-same k (λ j. length (flow.right.yss j)) (λ j. length (share flow.merged.picks flow.merged.ys j)) (λ j below. sym (ap length (flow.merged.parts j below)))
        ∙ length_shares k flow.merged.picks flow.merged.ys flow.merged.are in
        omega (
          arith,
          size_first,
          size_left,
          size_rows,
          size_columns,
          size_right,
          lefts_are,
          columns_are,
          rights_are,
          Same-length together,
          length_shares n flow.picks xs flow.dealt.are,
          outs-append sz lefts (deals ++ (merges ++ (rights ++ last))),
          outs-append sz deals (merges ++ (rights ++ last)),
          outs-append sz merges (rights ++ last),
          outs-append sz rights last,
          outs-copies sz Stage (child at 1) l e second n,
          outs-row_deals sz (route_kind r) at form k second third n,
          outs-column_merges sz at form n k third fourth k,
          outs-copies sz Stage (child at 2) t fourth fifth k,
        )
