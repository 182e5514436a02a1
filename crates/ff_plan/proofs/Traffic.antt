-- The messages on the edges that a network writes, its own out among them, by what it was given.
use Rattle.std.proofs.Common.{◌≡◌, ◌⊎◌, ℕ, zero, suc, ◌+◌, ◌*◌, ◌-◌, ◌<◌, ◌≤◌, Bool, true, false, List, [], ◌∷◌, length, sym, ap, ◌∙◌, inl, inr, arith}
use Rattle.std.proofs.lemmas.Bool.{true≢false, or_parts}
use Rattle.std.proofs.lemmas.List.{length-map}
use Rattle.ff_rec.specs.Lines.{Rec}
use Rattle.ff_rec.specs.Streams.{carried}
use Rattle.ff_rec.specs.declared.msg.Msg.TheVariants.{Item}
use Rattle.ff_rec.specs.Weights.{weigh}
use Rattle.ff_rec.proofs.WeightLaws.{weigh-one, Same-length}
use Rattle.ff_node.specs.Behaviour.{Behaviour}
use Rattle.ff_node.specs.OnLists.{PlainGoesByRecords, UnorderedGoesByCounts}
use Rattle.ff_node.specs.Picks.{ArePicks, share}
use Rattle.ff_node.specs.Runs.{Message}
use Rattle.ff_net.specs.declared.net.Sched.{Sched}
use Rattle.ff_net.specs.Counts.{count, inner_edges, all_inner_edges}
use Rattle.ff_net.specs.Forms.{has_wrap, any_wrap, is_ordered}
use Rattle.ff_net.specs.Good.{ArePlain, GoodParts, SteadyParts}
use Rattle.ff_net.specs.Logs.{Event}
use Rattle.ff_net.specs.Meaning.{mean, mean_through, SameInOrder}
use Rattle.ff_net.specs.Places.{child}
use Rattle.ff_net.specs.Tree.{Tree, Trees, Leaf, Pipe, Comb, Farm, none, more}
use Rattle.ff_plan.specs.declared.kind.UnitKind.TheVariants.{Merge}
use Rattle.ff_plan.specs.Laying.{lay, lay_parts, lay_copies}
use Rattle.ff_plan.specs.Rows.{Laid, laid, range}
use Rattle.ff_plan.proofs.Copies.{total-first}
use Rattle.ff_plan.proofs.EdgeLists.{OnRange-each, suc-times}
use Rattle.ff_plan.proofs.Farm.{deals_by_schedule}
use Rattle.ff_plan.proofs.FormLaws.{same_in_order}
use Rattle.ff_plan.proofs.MeanPlain.{no_wrap_fine}
use Rattle.ff_plan.proofs.MeanSame.{mean_through_steady}
use Rattle.ff_plan.proofs.Opens.{View, Known, HasAnswer, Outcome, LawOf}
use Rattle.ff_plan.proofs.Shares.{total-weigh-share}
use Rattle.ff_plan.proofs.Totals.{total, total-same, total-plus}
use Rattle.ff_plan.proofs.UnitLists.{OnRange, EachUnit-append}
use Rattle.ff_plan.proofs.WeighedRows.{weigh_outs, outs-append}
use Rattle.ff_plan.specs.Traffic.{passes, passes_through}
use Rattle.ff_plan.proofs.Counted.{IsCounted, passes_counted, passes_through_steady, length_counted}

-- what the shares of a list count is what the list counts
pub total_counted : (f : List Rec → ℕ) → IsCounted f → (n : ℕ) (p : List ℕ) (xs : List Rec) → ArePicks n p xs → total n (λ j. f (share p xs j)) ≡ f xs
total_counted f a n p xs are =
    total-same n (λ j. f (share p xs j)) (λ j. weigh a.cost (share p xs j)) (λ j below. a.is (share p xs j)) ∙ total-weigh-share are a.cost ∙ sym (a.is xs)

pub length_shares : (n : ℕ) (p : List ℕ) (xs : List Rec) → ArePicks n p xs → total n (λ j. length (share p xs j)) ≡ length xs
length_shares n p xs are =
    total-same n (λ j. length (share p xs j)) (λ j. weigh (λ _. 1) (share p xs j)) (λ j below. sym (weigh-one (share p xs j))) ∙ total-weigh-share are (λ _. 1) ∙ weigh-one xs

-- sizes of edges in a row
pub range_sizes : (sz : ℕ → ℕ) (f : ℕ → ℕ) (e n : ℕ) → ((j : ℕ) → j < n → sz (e + j) ≤ f j + 1) → weigh sz (range e n) ≤ total n f + n
range_sizes sz f e zero each = omega arith
range_sizes sz f e (suc n) each =
    let first : e + 0 ≡ e = omega arith in
    let here = each 0 (omega arith) in
    let rest = range_sizes sz (λ j. f (suc j)) (suc e) n (λ j below.
    let next : e + suc j ≡ suc e + j = omega arith in
    let there = each (suc j) (omega (arith, below)) in
    omega (arith, there, ap sz next)) in
    omega (arith, here, rest, ap sz first, total-first n f)

module _ {N : Type 0} (b : Behaviour N) (m : ℕ) (v : View N) (sz : ℕ → ℕ) (fits : (e : ℕ) (ms : List Message) → v.Out e ms → sz e ≤ length ms + 1) where
  -- the traffic of one network, wherever it is laid
  abbrev pub TrafficOf : Tree N → Type 0
  TrafficOf t = (at : List ℕ) (i o e : ℕ) (logs : List (List Event)) (xs : List Rec) → Known b m v (lay at t i o e) logs → v.In i (carried xs)
      → weigh_outs sz (lay at t i o e) ≤ passes b m t xs + inner_edges t + sz o

  abbrev pub EachTraffic : Trees N → Type 0
  EachTraffic none = Unit {0}
  EachTraffic (more t ts) = (LawOf b m v t × TrafficOf t) × EachTraffic ts

  pub carries_few : (e : ℕ) (ys : List Rec) → v.Out e (carried ys) → sz e ≤ length ys + 1
  carries_few e ys out =
      let few = fits e (carried ys) out in
      omega (arith, few, length-map ys (λ (x : Rec). Item x))

  -- the answer of a network without wraps
  pub answers : (t : Tree N) → has_wrap t ≡ false → LawOf b m v t → (at : List ℕ) (i o e : ℕ) (logs : List (List Event)) (xs : List Rec)
      → Known b m v (lay at t i o e) logs → v.In i (carried xs) → HasAnswer b m v t (lay at t i o e) logs o xs
  answers t free law at i o e logs xs known from = by (law at i o e logs xs known from)
    where
      by : Outcome b m v t (lay at t i o e) logs o xs → HasAnswer b m v t (lay at t i o e) logs o xs
      by (inl answer) = answer
      by (inr burst) = absurd (burst.0 (no_wrap_fine b m t free xs))

  pub out_few : (t : Tree N) → has_wrap t ≡ false → LawOf b m v t → (at : List ℕ) (i o e : ℕ) (logs : List (List Event)) (xs : List Rec)
      → Known b m v (lay at t i o e) logs → v.In i (carried xs) → sz o ≤ length (mean b m t xs) + 1
  out_few t free law at i o e logs xs known from =
      let answer = answers t free law at i o e logs xs known from in
      omega (arith, carries_few o answer.ys answer.out, Same-length (same_in_order (is_ordered t) (mean b m t xs) answer.ys answer.same))

  pub traffic_leaf : (x : N) → TrafficOf (Leaf x)
  traffic_leaf x at i o e logs xs known from = omega arith

  pub traffic_comb : (ts : Trees N) → TrafficOf (Comb ts)
  traffic_comb ts at i o e logs xs known from = omega arith

  -- a pipe
  module _ (by_counts : UnorderedGoesByCounts b) where
    record Alike (ts : Trees N) (us ys : List Rec) : Type 0 where
      pub passes : passes_through b m ts ys ≡ passes_through b m ts us
      pub means : length (mean_through b m ts ys) ≡ length (mean_through b m ts us)

    alike : (ts : Trees N) (ordered : Bool) (us ys : List Rec) → (ordered ≡ true) ⊎ SteadyParts b ts → SameInOrder ordered us ys → Alike ts us ys
    alike ts true us ys choice is = record { passes = ap (passes_through b m ts) is; means = ap (λ zs. length (mean_through b m ts zs)) is }
    alike ts false us ys (inl ordered) same = absurd (true≢false (sym ordered))
    alike ts false us ys (inr steady) same = record {
      passes = sym (passes_through_steady b by_counts m ts steady us ys same);
      means = sym (Same-length (mean_through_steady b by_counts m ts steady us ys same));
    }

    traffic_parts : (ts : Trees N) → 1 ≤ count ts → GoodParts b ts → any_wrap ts ≡ false → EachTraffic ts → (at : List ℕ) (k i o j e : ℕ) (logs : List (List Event)) (xs : List Rec)
        → Known b m v (lay_parts at k ts i o j e) logs → v.In i (carried xs)
        → weigh_outs sz (lay_parts at k ts i o j e) ≤ passes_through b m ts xs + ((count ts - 1) + all_inner_edges ts) + sz o
    traffic_parts none some good free each at k i o j e logs xs known from = absurd (omega (arith, some))
    traffic_parts (more t none) some good free each at k i o j e logs xs known from =
        omega (arith, each.0.1 (child at k) i o e logs xs known from)
    traffic_parts (more t (more u us)) some good free each at k i o j e logs xs known from =
        let ls = lay (child at k) t i j e in
        let ks = lay_parts at (k + 1) (more u us) j o (suc j) (e + inner_edges t) in
        let split = EachUnit-append _ ls ks logs known in
        let parts = or_parts (has_wrap t) (any_wrap (more u us)) free in
        let first = each.0.1 (child at k) i j e split.front xs split.left from in
        let between = out_few t parts.0 each.0.0 (child at k) i j e split.front xs split.left from in
        let answer = answers t parts.0 each.0.0 (child at k) i j e split.front xs split.left from in
        let same = alike (more u us) (is_ordered t) (mean b m t xs) answer.ys good.2 answer.same in
        let rest = traffic_parts (more u us) (omega arith) good.1 parts.1 each.1 at (k + 1) j o (suc j) (e + inner_edges t) split.back answer.ys split.right
        (v.link j (carried answer.ys) answer.out) in
        omega (arith, first, between, rest, same.passes, outs-append sz ls ks)

    pub traffic_pipe : (ts : Trees N) → 1 ≤ count ts → GoodParts b ts → any_wrap ts ≡ false → EachTraffic ts → TrafficOf (Pipe ts)
    traffic_pipe ts some good free each at i o e logs xs known from =
        traffic_parts ts some good free each at 1 i o e (e + (count ts - 1)) logs xs known from

  -- networks side by side
  traffic_copies : (w : Tree N) → has_wrap w ≡ false → LawOf b m v w → TrafficOf w → (at : List ℕ) (width i o e n : ℕ) (logs : List (List Event)) (xss : ℕ → List Rec)
      → Known b m v (lay_copies (lay at w) width i o e n) logs → OnRange v.In i n (λ j. carried (xss j))
      → weigh_outs sz (lay_copies (lay at w) width i o e n) ≤ total n (λ j. passes b m w (xss j) + length (mean b m w (xss j))) + n * inner_edges w + n
  traffic_copies w free law traffic at width i o e zero logs xss known from = omega arith
  traffic_copies w free law traffic at width i o e (suc n) logs xss known from =
      let ls = lay at w i o e in
      let ks = lay_copies (lay at w) width (suc i) (suc o) (e + width) n in
      let split = EachUnit-append _ ls ks logs known in
      let first = traffic at i o e split.front (xss 0) split.left from.0 in
      let out = out_few w free law at i o e split.front (xss 0) split.left from.0 in
      let rest = traffic_copies w free law traffic at width (suc i) (suc o) (e + width) n split.back (λ j. xss (suc j)) split.right from.1 in
      omega (
        arith,
        first,
        out,
        rest,
        outs-append sz ls ks,
        total-first n (λ j. passes b m w (xss j) + length (mean b m w (xss j))),
        suc-times n (inner_edges w),
      )

  -- a farm
  module _ (by_records : PlainGoesByRecords b) where
    pub traffic_farm : (n : ℕ) (s : Sched) (w : Tree N) → ArePlain b w → has_wrap w ≡ false → LawOf b m v w → TrafficOf w → TrafficOf (Farm n s w)
    traffic_farm n s w plain free law traffic at i o e [] xs known from = absurd known
    traffic_farm n s w plain free law traffic at i o e (log ∷ logs) xs known from =
        let form : Tree N = Farm n s w in
        let workers = lay_copies (lay (child at 1) w) (inner_edges w) e (e + n) (e + 2 * n) n in
        let merge : Laid N = laid Merge (range (e + n) n) (o ∷ []) at form in
        let split = EachUnit-append _ workers (merge ∷ []) logs known.1 in
        let dealt = deals_by_schedule b m v s at form log i e n xs known.0 from in
        let shares : ℕ → List Rec = share dealt.0 xs in
        let taken : OnRange v.In e n (λ j. carried (shares j)) =
        OnRange-each v.In e n (λ j. carried (shares j)) (λ j below. v.link (e + j) (carried (shares j)) (dealt.1.out j below)) in
        let deal = range_sizes sz (λ j. length (shares j)) e n (λ j below. carries_few (e + j) (shares j) (dealt.1.out j below)) in
        let inside = traffic_copies w free law traffic (child at 1) (inner_edges w) e (e + n) (e + 2 * n) n split.front shares split.left taken in
        omega (
          arith,
          deal,
          inside,
          outs-append sz workers (merge ∷ []),
          length_shares n dealt.0 xs dealt.1.are,
          total-plus n (λ j. passes b m w (shares j)) (λ j. length (mean b m w (shares j))),
          total_counted (passes b m w) (passes_counted b by_records m w plain free) n dealt.0 xs dealt.1.are,
          total_counted (λ ys. length (mean b m w ys)) (length_counted b by_records m w plain free) n dealt.0 xs dealt.1.are,
        )
