-- Where no wrap stands in a network, none of its units is a master, so that nothing is over a limit.
use Rattle.std.proofs.Common.{◌≡◌, ◌≢◌, ℕ, zero, suc, ◌+◌, ◌*◌, ◌-◌, false, List, [], ◌∷◌, ◌++◌}
use Rattle.std.proofs.lemmas.Bool.{or_parts}
use Rattle.ff_net.specs.declared.net.Sched.{Sched}
use Rattle.ff_net.specs.declared.net.Sched.TheVariants.{Rr as InTurn, Od as OnDemand}
use Rattle.ff_net.specs.declared.net.Route.{Route}
use Rattle.ff_net.specs.declared.net.Route.TheVariants.{Rr, Od, By}
use Rattle.ff_net.specs.Counts.{count, inner_edges, pick_edges}
use Rattle.ff_net.specs.Forms.{has_wrap, any_wrap}
use Rattle.ff_net.specs.Logs.{Event}
use Rattle.ff_net.specs.Places.{child}
use Rattle.ff_net.specs.Tree.{Tree, Trees, Leaf, Pipe, Comb, Farm, OFarm, A2a, Wrap, none, more}
use Rattle.ff_plan.specs.declared.kind.UnitKind.{UnitKind}
use Rattle.ff_plan.specs.declared.kind.UnitKind.TheVariants.{Stage, DealRr, Merge, Master}
use Rattle.ff_plan.specs.Histories.{EachUnit}
use Rattle.ff_plan.specs.Laying.{deal_kind, odeal_kind, omerge_kind, route_kind, copies, lay_copies, row_deals, column_merges, lay, lay_parts}
use Rattle.ff_plan.specs.Rows.{Laid, laid, range}
use Rattle.ff_plan.proofs.Opens.{View}

-- no unit is a master
abbrev pub NoMaster : {N : Type 0} → List (Laid N) → Type 0
NoMaster [] = Unit {0}
NoMaster (l ∷ ls) = (l.row.kind ≢ Master) × NoMaster ls

-- then no master is over its limit
pub calm_of : {N : Type 0} (v : View N) (P : Laid N → List Event → Type 0) (ls : List (Laid N)) (logs : List (List Event)) → NoMaster ls → EachUnit P ls logs → v.Calm ls logs
calm_of v P [] [] free each = v.calm_none
calm_of v P [] (log ∷ logs) free each = absurd each
calm_of v P (l ∷ ls) [] free each = absurd each
calm_of v P (l ∷ ls) (log ∷ logs) free each = v.calm_unit l log ls logs free.0 (calm_of v P ls logs free.1 each.1)

deals : (s : Sched) → deal_kind s ≢ Master
deals InTurn = λ h. absurd (cc h)
deals OnDemand = λ h. absurd (cc h)

ordered_deals : (s : Sched) → odeal_kind s ≢ Master
ordered_deals InTurn = λ h. absurd (cc h)
ordered_deals OnDemand = λ h. absurd (cc h)

ordered_merges : (s : Sched) → omerge_kind s ≢ Master
ordered_merges InTurn = λ h. absurd (cc h)
ordered_merges OnDemand = λ h. absurd (cc h)

routes : (r : Route) → route_kind r ≢ Master
routes Rr = λ h. absurd (cc h)
routes Od = λ h. absurd (cc h)
routes (By f) = λ h. absurd (cc h)

merge_is_none : Merge ≢ Master
merge_is_none = λ h. absurd (cc h)

stage_is_none : Stage ≢ Master
stage_is_none = λ h. absurd (cc h)

turn_is_none : DealRr ≢ Master
turn_is_none = λ h. absurd (cc h)

module _ {N : Type 0} where
  NoMaster-append : (ls ks : List (Laid N)) → NoMaster ls → NoMaster ks → NoMaster (ls ++ ks)
  NoMaster-append [] ks left right = right
  NoMaster-append (l ∷ ls) ks left right = (left.0, NoMaster-append ls ks left.1 right)

  NoMaster-copies : (at : List ℕ) (t : Tree N) (i o n : ℕ) → NoMaster (copies Stage at t i o n)
  NoMaster-copies at t i o zero = tt
  NoMaster-copies at t i o (suc n) = (stage_is_none, NoMaster-copies at t (suc i) (suc o) n)

  NoMaster-lay_copies : (one : ℕ → ℕ → ℕ → List (Laid N)) (width i o e n : ℕ) → ((i o e : ℕ) → NoMaster (one i o e)) → NoMaster (lay_copies one width i o e n)
  NoMaster-lay_copies one width i o e zero each = tt
  NoMaster-lay_copies one width i o e (suc n) each =
      NoMaster-append (one i o e) (lay_copies one width (suc i) (suc o) (e + width) n) (each i o e) (NoMaster-lay_copies one width (suc i) (suc o) (e + width) n each)

  NoMaster-row_deals : (kind : UnitKind) → kind ≢ Master → (at : List ℕ) (t : Tree N) (m b c n : ℕ) → NoMaster (row_deals kind at t m b c n)
  NoMaster-row_deals kind other at t m b c zero = tt
  NoMaster-row_deals kind other at t m b c (suc n) = (other, NoMaster-row_deals kind other at t m (suc b) (c + m) n)

  NoMaster-column_merges : (at : List ℕ) (t : Tree N) (n m c d k : ℕ) → NoMaster (column_merges at t n m c d k)
  NoMaster-column_merges at t n m c d zero = tt
  NoMaster-column_merges at t n m c d (suc k) = (merge_is_none, NoMaster-column_merges at t n m (suc c) (suc d) k)

  -- one unit more behind others
  NoMaster-push : (ls : List (Laid N)) (kind : UnitKind) (ins outs at : List ℕ) (t : Tree N) → NoMaster ls → kind ≢ Master → NoMaster (ls ++ laid kind ins outs at t ∷ [])
  NoMaster-push ls kind ins outs at t free other = NoMaster-append ls (laid kind ins outs at t ∷ []) free (other, tt)

  NoMaster-sets : (at : List ℕ) (n : ℕ) (l : Tree N) (r : Route) (m : ℕ) (t : Tree N) (i o e : ℕ) → NoMaster (lay at (A2a n l r m t) i o e)
  NoMaster-sets at n l r m t i o e = (
    turn_is_none,
    NoMaster-append _ _ (NoMaster-copies (child at 1) l e (e + n) n)
        (NoMaster-append _ _ (NoMaster-row_deals (route_kind r) (routes r) at (A2a n l r m t) m (e + n) (e + 2 * n) n)
        (NoMaster-append _ _ (NoMaster-column_merges at (A2a n l r m t) n m (e + 2 * n) (e + 2 * n + n * m) m)
        (NoMaster-append _ _ (NoMaster-copies (child at 2) t (e + 2 * n + n * m) (e + 2 * n + n * m + m) m) (merge_is_none, tt)))),
  )

  mutual
    pub NoMaster-lay : (t : Tree N) (at : List ℕ) (i o e : ℕ) → has_wrap t ≡ false → NoMaster (lay at t i o e)
    NoMaster-lay (Leaf n) at i o e free = (stage_is_none, tt)
    NoMaster-lay (Pipe ts) at i o e free = NoMaster-lay_parts ts at 1 i o e (e + (count ts - 1)) free
    NoMaster-lay (Comb ts) at i o e free = (stage_is_none, tt)
    NoMaster-lay (Farm n s w) at i o e free =
        let workers = NoMaster-lay_copies (lay (child at 1) w) (inner_edges w) e (e + n) (e + 2 * n) n (λ i o e. NoMaster-lay w (child at 1) i o e free) in
        (deals s, NoMaster-push _ Merge (range (e + n) n) (o ∷ []) at (Farm n s w) workers merge_is_none)
    NoMaster-lay (OFarm n s w) at i o e free =
        let workers = NoMaster-lay_copies (lay (child at 1) w) (inner_edges w) e (e + n) (e + 2 * n + pick_edges s) n (λ i o e. NoMaster-lay w (child at 1) i o e free) in
        (ordered_deals s, NoMaster-push _ (omerge_kind s) (range (e + n) n ++ range (e + 2 * n) (pick_edges s)) (o ∷ []) at (OFarm n s w) workers (ordered_merges s))
    NoMaster-lay (A2a n l r m t) at i o e free = NoMaster-sets at n l r m t i o e
    NoMaster-lay (Wrap n w p) at i o e free = absurd (cc free)

    pub NoMaster-lay_parts : (ts : Trees N) (at : List ℕ) (k i o j e : ℕ) → any_wrap ts ≡ false → NoMaster (lay_parts at k ts i o j e)
    NoMaster-lay_parts none at k i o j e free = tt
    NoMaster-lay_parts (more t none) at k i o j e free = NoMaster-lay t (child at k) i o e (or_parts (has_wrap t) false free).0
    NoMaster-lay_parts (more t (more u us)) at k i o j e free =
        let apart = or_parts (has_wrap t) (any_wrap (more u us)) free in
        NoMaster-append _ _ (NoMaster-lay t (child at k) i j e apart.0) (NoMaster-lay_parts (more u us) at (k + 1) j o (suc j) (e + inner_edges t) apart.1)
