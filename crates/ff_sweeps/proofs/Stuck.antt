-- A network of which no unit can move passed on all that came, where nothing is left behind it.
use Rattle.std.proofs.Common.{◌≡◌, ◌⊎◌, ℕ, zero, suc, ◌+◌, ◌*◌, ◌-◌, ◌<◌, ◌≤◌, false, ◌||◌, List, [], ◌∷◌, ◌++◌, subst, inl, inr, arith, append-nil}
use Rattle.std.proofs.lemmas.Bool.{true≢false, or_parts}
use Rattle.std.specs.List.{AllByRecursion}
use Rattle.ff_node.specs.Behaviour.{Behaviour}
use Rattle.ff_net.specs.declared.net.Sched.TheVariants.{Rr as InTurn, Od as OnDemand}
use Rattle.ff_net.specs.declared.net.Route.{Route}
use Rattle.ff_net.specs.Counts.{count, inner_edges}
use Rattle.ff_net.specs.Forms.{has_choice, any_choice, goes_on_demand}
use Rattle.ff_net.specs.Good.{Good, GoodParts}
use Rattle.ff_net.specs.Places.{child}
use Rattle.ff_net.specs.Tree.{Tree, Trees, Leaf, Pipe, Comb, Farm, OFarm, A2a, Wrap, none, more}
use Rattle.ff_plan.specs.declared.kind.UnitKind.TheVariants.{Stage, DealRr, Merge, ODealRr, OMergeTurn}
use Rattle.ff_plan.specs.Laying.{lay, lay_parts, lay_copies, copies, row_deals, column_merges, route_kind}
use Rattle.ff_plan.specs.Rows.{Laid, laid, range}
use Rattle.ff_sweeps.proofs.Moments.{Moment, InOrder, Dry, Passed, Passes, DealtOrder, Awaits, IsStuck, AllEnded}
use Rattle.ff_sweeps.proofs.Bands.{all-front, all-back, all-at, behind, beside, ended_as, nothing, both_ended}
use Rattle.ff_sweeps.proofs.Lines.{works_pipeline}
use Rattle.ff_sweeps.proofs.Orders.{Works, DealtIn, dealt_in, awaits_in, order}
use Rattle.ff_sweeps.proofs.Sets.{by_rows, by_the_rows, passes_stages, passes_deals, passes_merges}

-- what passes on what came, wherever it is laid
abbrev pub PassesAll : {N : Type 0} → Moment → (ℕ → ℕ → ℕ → List (Laid N)) → Type 0
PassesAll v one = (i o e : ℕ) → AllByRecursion (IsStuck v) (one i o e) → Passes v (i ∷ []) (o ∷ []) (AllEnded v (one i o e))

-- a deal that isn't blocked passed on what came
deal_passes : (v : Moment) (i e n : ℕ) (Ended : Type 0) → DealtIn v i e n Ended → Passes v (i ∷ []) (range e n) Ended
deal_passes v i e n Ended deal dry = elim deal.state [
  | inl blocked ↦ absurd (blocked.wet (all-at (Dry v) e n dry blocked.k blocked.below))
  | inr passed ↦ passed
]

module _ {N : Type 0} (v : Moment) where
  pub passes_copies : (one : ℕ → ℕ → ℕ → List (Laid N)) → PassesAll v one → (width i o e n : ℕ) → AllByRecursion (IsStuck v) (lay_copies one width i o e n)
      → Passes v (range i n) (range o n) (AllEnded v (lay_copies one width i o e n))
  passes_copies one each width i o e zero stuck = nothing v
  passes_copies one each width i o e (suc n) stuck =
      let ls = one i o e in
      let ks = lay_copies one width (suc i) (suc o) (e + width) n in
      ended_as v (range i (suc n)) (range o (suc n)) (AllEnded v ls × AllEnded v ks) (AllEnded v (ls ++ ks)) (both_ended v ls ks)
      (beside v (i ∷ []) (o ∷ []) (range (suc i) n) (range (suc o) n) (AllEnded v ls) (AllEnded v ks)
      (each i o e (all-front (IsStuck v) ls ks stuck))
      (passes_copies one each width (suc i) (suc o) (e + width) n (all-back (IsStuck v) ls ks stuck)))

  -- each of them works
  works_copies : (one : ℕ → ℕ → ℕ → List (Laid N)) → ((i o e : ℕ) → AllByRecursion (IsStuck v) (one i o e) → Works v i o)
      → (width i o e n : ℕ) → AllByRecursion (IsStuck v) (lay_copies one width i o e n) → (j : ℕ) → j < n → Works v (i + j) (o + j)
  works_copies one each width i o e zero stuck j below = absurd (omega (arith, below))
  works_copies one each width i o e (suc n) stuck zero below =
      let ls = one i o e in
      let ks = lay_copies one width (suc i) (suc o) (e + width) n in
      let first : i ≡ i + 0 = omega arith in
      let last : o ≡ o + 0 = omega arith in
      subst (λ a. Works v a (o + 0)) first (subst (λ a. Works v i a) last (each i o e (all-front (IsStuck v) ls ks stuck)))
  works_copies one each width i o e (suc n) stuck (suc j) below =
      let ls = one i o e in
      let ks = lay_copies one width (suc i) (suc o) (e + width) n in
      let first : suc i + j ≡ i + suc j = omega arith in
      let last : suc o + j ≡ o + suc j = omega arith in
      subst (λ a. Works v a (o + suc j)) first
      (subst (λ a. Works v (suc i + j) a) last
      (works_copies one each width (suc i) (suc o) (e + width) n (all-back (IsStuck v) ls ks stuck) j (omega (arith, below))))

  -- a deal, workers and a merge
  farm_passes : (deal : Laid N) (workers : List (Laid N)) (merge : Laid N) (i o : ℕ) (es fs : List ℕ)
      → Passes v (i ∷ []) es (v.Ended deal.row) → Passes v es fs (AllEnded v workers) → Passes v fs (o ∷ []) (v.Ended merge.row)
      → Passes v (i ∷ []) (o ∷ []) (AllEnded v (deal ∷ (workers ++ merge ∷ [])))
  farm_passes deal workers merge i o es fs first middle last =
      ended_as v (i ∷ []) (o ∷ []) ((v.Ended deal.row × AllEnded v workers) × v.Ended merge.row) (AllEnded v (deal ∷ (workers ++ merge ∷ [])))
      (λ all. (all.0.0, both_ended v workers (merge ∷ []) (all.0.1, (all.1, tt))))
      (behind v (i ∷ []) fs (o ∷ []) (v.Ended deal.row × AllEnded v workers) (v.Ended merge.row)
      (behind v (i ∷ []) es fs (v.Ended deal.row) (AllEnded v workers) first middle) last)

  -- the same where the deal and the merge keep an order
  ofarm_passes : InOrder v → (deal : Laid N) (workers : List (Laid N)) (merge : Laid N) (i o e f n : ℕ) → 1 ≤ n
      → DealtOrder v (i ∷ []) (range e n) (v.Ended deal.row) → Passes v (range e n) (range f n) (AllEnded v workers)
      → ((j : ℕ) → j < n → Works v (e + j) (f + j))
      → (AllByRecursion (Dry v) (o ∷ []) → Awaits v (range f n) ⊎ Passed v (range f n) (o ∷ []) (v.Ended merge.row))
      → Passes v (i ∷ []) (o ∷ []) (AllEnded v (deal ∷ (workers ++ merge ∷ [])))
  ofarm_passes in_order deal workers merge i o e f n some first middle works last dry = by (last dry)
    where
      by : Awaits v (range f n) ⊎ Passed v (range f n) (o ∷ []) (v.Ended merge.row) → Passed v (i ∷ []) (o ∷ []) (AllEnded v (deal ∷ (workers ++ merge ∷ [])))
      by (inr passed) =
          farm_passes deal workers merge i o (range e n) (range f n) (deal_passes v i e n (v.Ended deal.row) (dealt_in v i e n (v.Ended deal.row) first)) middle (λ d. passed) dry
      by (inl waits) =
          let both = order v in_order i e f n (v.Ended deal.row) some works (dealt_in v i e n (v.Ended deal.row) first) (awaits_in v f n some waits) in
          record { dry = (both.0, tt); ends = λ closed. absurd (both.1 closed.0) }

  -- some units behind others
  lists_behind : (ls ks : List (Laid N)) (ins mids outs : List ℕ) → Passes v ins mids (AllEnded v ls) → Passes v mids outs (AllEnded v ks) → Passes v ins outs (AllEnded v (ls ++ ks))
  lists_behind ls ks ins mids outs first second =
      ended_as v ins outs (AllEnded v ls × AllEnded v ks) (AllEnded v (ls ++ ks)) (both_ended v ls ks) (behind v ins mids outs (AllEnded v ls) (AllEnded v ks) first second)

  -- an all-to-all
  sets_pass : (n : ℕ) (l : Tree N) (r : Route) (m : ℕ) (t : Tree N) → goes_on_demand r ≡ false → (at : List ℕ) → PassesAll v (lay at (A2a n l r m t))
  sets_pass n l r m t fixed at i o e stuck =
      let form : Tree N = A2a n l r m t in
      let b = e + n in
      let c = e + 2 * n in
      let d = c + n * m in
      let f = d + m in
      let deal : Laid N = laid DealRr (i ∷ []) (range e n) at form in
      let lefts = copies Stage (child at 1) l e b n in
      let deals = row_deals (route_kind r) at form m b c n in
      let merges = column_merges at form n m c d m in
      let rights = copies Stage (child at 2) t d f m in
      let merge : Laid N = laid Merge (range f m) (o ∷ []) at form in
      let behind_rights = merge ∷ [] in
      let behind_merges = rights ++ behind_rights in
      let behind_deals = merges ++ behind_merges in
      let behind_lefts = deals ++ behind_deals in
      let from_lefts = all-back (IsStuck v) lefts behind_lefts stuck.1 in
      let from_deals = all-back (IsStuck v) deals behind_deals from_lefts in
      let from_merges = all-back (IsStuck v) merges behind_merges from_deals in
      let from_rights = all-back (IsStuck v) rights behind_rights from_merges in
      lists_behind (deal ∷ []) (lefts ++ behind_lefts) (i ∷ []) (range e n) (o ∷ [])
      (ended_as v (i ∷ []) (range e n) (v.Ended deal.row) (AllEnded v (deal ∷ [])) (λ h. (h, tt)) stuck.0)
      (lists_behind lefts behind_lefts (range e n) (range b n) (o ∷ [])
      (passes_stages v (child at 1) l e b n (all-front (IsStuck v) lefts behind_lefts stuck.1))
      (lists_behind deals behind_deals (range b n) (by_rows m c n) (o ∷ [])
      (passes_deals v r fixed at form m b c n (all-front (IsStuck v) deals behind_deals from_lefts))
      (lists_behind merges behind_merges (by_rows m c n) (range d m) (o ∷ [])
      (by_the_rows v m n c (range d m) (AllEnded v merges) (passes_merges v at form n m c d m (all-front (IsStuck v) merges behind_merges from_deals)))
      (lists_behind rights behind_rights (range d m) (range f m) (o ∷ [])
      (passes_stages v (child at 2) t d f m (all-front (IsStuck v) rights behind_rights from_merges))
      (ended_as v (range f m) (o ∷ []) (v.Ended merge.row) (AllEnded v (merge ∷ [])) (λ h. (h, tt)) from_rights.0)))))

module _ {N : Type 0} (b : Behaviour N) (v : Moment) (in_order : InOrder v) where
  some_parts : (w : Tree N) → Good b w → (ts : Trees N) → w ≡ Pipe ts → 1 ≤ count ts
  some_parts w good ts is = (subst (λ t. Good b t) is good).0.0

  mutual
    -- a network without wraps and without choices
    pub passes_net : (t : Tree N) → Good b t → has_choice t ≡ false → (at : List ℕ) → PassesAll v (lay at t)
    passes_net (Leaf x) good fixed at i o e stuck =
        let l : Laid N = laid Stage (i ∷ []) (o ∷ []) at (Leaf x) in
        ended_as v (i ∷ []) (o ∷ []) (v.Ended l.row) (AllEnded v (l ∷ [])) (λ h. (h, tt)) stuck.0.0
    passes_net (Comb ts) good fixed at i o e stuck =
        let l : Laid N = laid Stage (i ∷ []) (o ∷ []) at (Comb ts) in
        ended_as v (i ∷ []) (o ∷ []) (v.Ended l.row) (AllEnded v (l ∷ [])) (λ h. (h, tt)) stuck.0.0
    passes_net (Pipe ts) good fixed at i o e stuck =
        passes_parts ts good.0.0 good.1 fixed at 1 i o e (e + (count ts - 1)) stuck
    passes_net (Farm n OnDemand w) good fixed at i o e stuck = absurd (true≢false fixed)
    passes_net (Farm n InTurn w) good fixed at i o e stuck =
        let form : Tree N = Farm n InTurn w in
        let workers = lay_copies (lay (child at 1) w) (inner_edges w) e (e + n) (e + 2 * n) n in
        let deal : Laid N = laid DealRr (i ∷ []) (range e n) at form in
        let merge : Laid N = laid Merge (range (e + n) n) (o ∷ []) at form in
        farm_passes v deal workers merge i o (range e n) (range (e + n) n)
        stuck.0
        (passes_copies v (lay (child at 1) w) (λ j q f. passes_net w good.3 fixed (child at 1) j q f) (inner_edges w) e (e + n) (e + 2 * n) n
        (all-front (IsStuck v) workers (merge ∷ []) stuck.1))
        (all-back (IsStuck v) workers (merge ∷ []) stuck.1).0
    passes_net (OFarm n OnDemand w) good fixed at i o e stuck = absurd (true≢false fixed)
    passes_net (OFarm n InTurn w) good fixed at i o e stuck =
        let form : Tree N = OFarm n InTurn w in
        let one = lay (child at 1) w in
        let workers = lay_copies one (inner_edges w) e (e + n) (e + 2 * n + 0) n in
        let deal : Laid N = laid ODealRr (i ∷ []) (range e n ++ []) at form in
        let merge : Laid N = laid OMergeTurn (range (e + n) n ++ []) (o ∷ []) at form in
        let inside = all-front (IsStuck v) workers (merge ∷ []) stuck.1 in
        let last = (all-back (IsStuck v) workers (merge ∷ []) stuck.1).0 in
        ofarm_passes v in_order deal workers merge i o e (e + n) n good.0.0
        (subst (λ es. DealtOrder v (i ∷ []) es (v.Ended deal.row)) (append-nil (range e n)) stuck.0)
        (passes_copies v one (λ j q f. passes_net w good.3 fixed (child at 1) j q f) (inner_edges w) e (e + n) (e + 2 * n + 0) n inside)
        (works_copies v one (λ j q f. works_pipeline v in_order w good.2 (some_parts w good.3) (child at 1) j q f) (inner_edges w) e (e + n) (e + 2 * n + 0) n inside)
        (subst (λ es. AllByRecursion (Dry v) (o ∷ []) → Awaits v es ⊎ Passed v es (o ∷ []) (v.Ended merge.row)) (append-nil (range (e + n) n)) last)
    passes_net (A2a n l r m t) good fixed at i o e stuck =
        sets_pass v n l r m t (or_parts (goes_on_demand r) (has_choice l || has_choice t) fixed).0 at i o e stuck
    passes_net (Wrap n w p) good fixed at i o e stuck = absurd (true≢false fixed)

    passes_parts : (ts : Trees N) → 1 ≤ count ts → GoodParts b ts → any_choice ts ≡ false → (at : List ℕ) (k i o j e : ℕ)
        → AllByRecursion (IsStuck v) (lay_parts at k ts i o j e) → Passes v (i ∷ []) (o ∷ []) (AllEnded v (lay_parts at k ts i o j e))
    passes_parts none some good fixed at k i o j e stuck = absurd (omega (arith, some))
    passes_parts (more t none) some good fixed at k i o j e stuck =
        passes_net t good.0 (or_parts (has_choice t) false fixed).0 (child at k) i o e stuck
    passes_parts (more t (more u us)) some good fixed at k i o j e stuck =
        let free = or_parts (has_choice t) (any_choice (more u us)) fixed in
        let ls = lay (child at k) t i j e in
        let ks = lay_parts at (k + 1) (more u us) j o (suc j) (e + inner_edges t) in
        ended_as v (i ∷ []) (o ∷ []) (AllEnded v ls × AllEnded v ks) (AllEnded v (ls ++ ks)) (both_ended v ls ks)
        (behind v (i ∷ []) (j ∷ []) (o ∷ []) (AllEnded v ls) (AllEnded v ks)
        (passes_net t good.0 free.0 (child at k) i j e (all-front (IsStuck v) ls ks stuck))
        (passes_parts (more u us) (omega arith) good.1 free.1 at (k + 1) j o (suc j) (e + inner_edges t) (all-back (IsStuck v) ls ks stuck)))
