-- The units of a network have the ends that their kinds ask for.
use Rattle.std.proofs.Common.{◌≡◌, ℕ, zero, suc, ◌+◌, ◌-◌, ◌*◌, List, [], ◌∷◌, ◌++◌, length, refl, ap, ◌∙◌, subst, sym, add-zero, add-one}
use Rattle.std.specs.List.{AllByRecursion}
use Rattle.std.proofs.lemmas.List.{length-append}
use Rattle.ff_node.specs.Behaviour.{Behaviour}
use Rattle.ff_net.specs.Counts.{count, inner_edges, pick_edges}
use Rattle.ff_net.specs.Good.{Good, GoodParts, InRange, ArePlain}
use Rattle.ff_net.specs.Places.{child}
use Rattle.ff_net.specs.Tree.{Tree, Trees, Leaf, Pipe, Comb, Farm, OFarm, A2a, Wrap, none, more}
use Rattle.ff_net.specs.declared.net.Route.{Route}
use Rattle.ff_net.specs.declared.net.Route.TheVariants.{Rr, Od, By}
use Rattle.ff_net.specs.declared.net.Sched.{Sched}
use Rattle.ff_net.specs.declared.net.Test.{Test}
use Rattle.ff_net.specs.declared.net.Sched.TheVariants.{Rr as DealInTurn, Od as DealOnDemand}
use Rattle.ff_plan.specs.declared.kind.UnitKind.{UnitKind}
use Rattle.ff_plan.specs.declared.kind.UnitKind.TheVariants.{Stage, DealRr, DealOd, DealBy, Merge, ODealRr, ODealOd, OMergeTurn, OMergePick, Master, Worker}
use Rattle.ff_plan.specs.Laying.{lay, lay_parts, lay_copies, copies, row_deals, column_merges, deal_kind, odeal_kind, omerge_kind, route_kind}
use Rattle.ff_plan.specs.Rows.{Laid, laid, range, stride}

-- a number in range, and one more for the picks
pub record IsOneMore (n : ℕ) : Type 0 where
  pub places : ℕ
  pub is : n ≡ suc places
  pub range : InRange places

-- the master of this form has an in and an out for each worker, and one more
abbrev pub IsMasterOf : {N : Type 0} → Tree N → ℕ → ℕ → Type 0
IsMasterOf (Leaf o) n k = ⊥
IsMasterOf (Pipe ts) n k = ⊥
IsMasterOf (Comb ts) n k = ⊥
IsMasterOf (Farm c s w) n k = ⊥
IsMasterOf (OFarm c s w) n k = ⊥
IsMasterOf (A2a c l r j t) n k = ⊥
IsMasterOf (Wrap c w p) n k = InRange c × (n ≡ suc c) × (k ≡ suc c)

-- so many ins and so many outs are those of a unit of this kind, and the nodes of a wrap's worker are Plain
abbrev pub IsShaped : {N : Type 0} → Behaviour N → UnitKind → Tree N → ℕ → ℕ → Type 0
IsShaped b Stage t n k = (n ≡ 1) × (k ≡ 1)
IsShaped b DealRr t n k = (n ≡ 1) × InRange k
IsShaped b DealOd t n k = (n ≡ 1) × InRange k
IsShaped b (DealBy f) t n k = (n ≡ 1) × InRange k
IsShaped b Merge t n k = InRange n × (k ≡ 1)
IsShaped b ODealRr t n k = (n ≡ 1) × InRange k
IsShaped b ODealOd t n k = (n ≡ 1) × IsOneMore k
IsShaped b OMergeTurn t n k = InRange n × (k ≡ 1)
IsShaped b OMergePick t n k = IsOneMore n × (k ≡ 1)
IsShaped b Master t n k = IsMasterOf t n k
IsShaped b Worker t n k = (n ≡ 1) × (k ≡ 1) × ArePlain b t

abbrev pub HasShape : {N : Type 0} → Behaviour N → Laid N → Type 0
HasShape b l = IsShaped b l.row.kind l.net (length l.row.ins) (length l.row.outs)

pub length-range : (e n : ℕ) → length (range e n) ≡ n
length-range e zero = refl
length-range e (suc n) = ap suc (length-range (suc e) n)

pub length-stride : (step e n : ℕ) → length (stride step e n) ≡ n
length-stride step e zero = refl
length-stride step e (suc n) = ap suc (length-stride step (e + step) n)

-- with an edge for the picks, or without
pub length-picked : (s : Sched) (e f n : ℕ) → length (range e n ++ range f (pick_edges s)) ≡ n + pick_edges s
length-picked s e f n = length-append (range e n) (range f (pick_edges s)) ∙ ap (λ k. k + length (range f (pick_edges s))) (length-range e n) ∙ ap (λ k. n + k) (length-range f (pick_edges s))

module _ {N : Type 0} (b : Behaviour N) where
  both : (P : Laid N → Type 0) (xs ys : List (Laid N)) → AllByRecursion P xs → AllByRecursion P ys → AllByRecursion P (xs ++ ys)
  both P [] ys here there = there
  both P (x ∷ xs) ys here there = (here.0, both P xs ys here.1 there)

  -- the deals and merges of farms
  HasShape-deal : (s : Sched) (at : List ℕ) (t : Tree N) (i e n : ℕ) → InRange n → HasShape b (laid (deal_kind s) (i ∷ []) (range e n) at t)
  HasShape-deal DealInTurn at t i e n some = (refl, subst InRange (sym (length-range e n)) some)
  HasShape-deal DealOnDemand at t i e n some = (refl, subst InRange (sym (length-range e n)) some)

  HasShape-merge : (at : List ℕ) (t : Tree N) (o e n : ℕ) → InRange n → HasShape b (laid Merge (range e n) (o ∷ []) at t)
  HasShape-merge at t o e n some = (subst InRange (sym (length-range e n)) some, refl)

  HasShape-odeal : (s : Sched) (at : List ℕ) (t : Tree N) (i e f n : ℕ) → InRange n → HasShape b (laid (odeal_kind s) (i ∷ []) (range e n ++ range f (pick_edges s)) at t)
  HasShape-odeal DealInTurn at t i e f n some = (refl, subst InRange (sym (length-picked DealInTurn e f n ∙ add-zero n)) some)
  HasShape-odeal DealOnDemand at t i e f n some = (refl, record { places = n; is = length-picked DealOnDemand e f n ∙ add-one n; range = some })

  HasShape-omerge : (s : Sched) (at : List ℕ) (t : Tree N) (o e f n : ℕ) → InRange n → HasShape b (laid (omerge_kind s) (range e n ++ range f (pick_edges s)) (o ∷ []) at t)
  HasShape-omerge DealInTurn at t o e f n some = (subst InRange (sym (length-picked DealInTurn e f n ∙ add-zero n)) some, refl)
  HasShape-omerge DealOnDemand at t o e f n some = (record { places = n; is = length-picked DealOnDemand e f n ∙ add-one n; range = some }, refl)

  -- what stands inside an all-to-all
  shapes-copies : (at : List ℕ) (t : Tree N) (i o n : ℕ) → AllByRecursion (HasShape b) (copies Stage at t i o n)
  shapes-copies at t i o zero = tt
  shapes-copies at t i o (suc n) = ((refl, refl), shapes-copies at t (suc i) (suc o) n)

  HasShape-route : (r : Route) (at : List ℕ) (t : Tree N) (i c m : ℕ) → InRange m → HasShape b (laid (route_kind r) (i ∷ []) (range c m) at t)
  HasShape-route Rr at t i c m some = (refl, subst InRange (sym (length-range c m)) some)
  HasShape-route Od at t i c m some = (refl, subst InRange (sym (length-range c m)) some)
  HasShape-route (By f) at t i c m some = (refl, subst InRange (sym (length-range c m)) some)

  shapes-row_deals : (r : Route) (at : List ℕ) (t : Tree N) (m i c n : ℕ) → InRange m → AllByRecursion (HasShape b) (row_deals (route_kind r) at t m i c n)
  shapes-row_deals r at t m i c zero some = tt
  shapes-row_deals r at t m i c (suc n) some = (HasShape-route r at t i c m some, shapes-row_deals r at t m (suc i) (c + m) n some)

  shapes-column_merges : (at : List ℕ) (t : Tree N) (n m c d k : ℕ) → InRange n → AllByRecursion (HasShape b) (column_merges at t n m c d k)
  shapes-column_merges at t n m c d zero some = tt
  shapes-column_merges at t n m c d (suc k) some =
      ((subst InRange (sym (length-stride m c n)) some, refl), shapes-column_merges at t n m (suc c) (suc d) k some)

  shapes-lay_copies : (one : ℕ → ℕ → ℕ → List (Laid N)) (width : ℕ) → ((i o e : ℕ) → AllByRecursion (HasShape b) (one i o e))
      → (i o e n : ℕ) → AllByRecursion (HasShape b) (lay_copies one width i o e n)
  shapes-lay_copies one width each i o e zero = tt
  shapes-lay_copies one width each i o e (suc n) =
      both (HasShape b) (one i o e) (lay_copies one width (suc i) (suc o) (e + width) n) (each i o e) (shapes-lay_copies one width each (suc i) (suc o) (e + width) n)

  -- the master and the workers of a wrap
  HasShape-master : (at : List ℕ) (w : Tree N) (p : Test) (i o e n : ℕ) → InRange n
      → HasShape b (laid Master (i ∷ range (e + n) n) (range e n ++ o ∷ []) at (Wrap n w p))
  HasShape-master at w p i o e n some = (some, ap suc (length-range (e + n) n), length-append (range e n) (o ∷ []) ∙ ap (λ k. k + 1) (length-range e n) ∙ add-one n)

  shapes-workers : (at : List ℕ) (t : Tree N) (i o n : ℕ) → ArePlain b t → AllByRecursion (HasShape b) (copies Worker at t i o n)
  shapes-workers at t i o zero plain = tt
  shapes-workers at t i o (suc n) plain = ((refl, refl, plain), shapes-workers at t (suc i) (suc o) n plain)

  mutual
    pub shapes-lay : (t : Tree N) → Good b t → (at : List ℕ) (i o e : ℕ) → AllByRecursion (HasShape b) (lay at t i o e)
    shapes-lay (Leaf x) good at i o e = ((refl, refl), tt)
    shapes-lay (Pipe ts) good at i o e = shapes-parts ts good.1 at 1 i o e (e + (count ts - 1))
    shapes-lay (Comb ts) good at i o e = ((refl, refl), tt)
    shapes-lay (Farm n s w) good at i o e = (
      HasShape-deal s at (Farm n s w) i e n good.0,
      both (HasShape b) (lay_copies (lay (child at 1) w) (inner_edges w) e (e + n) (e + 2 * n) n) _
          (shapes-lay_copies (lay (child at 1) w) (inner_edges w) (λ j p f. shapes-lay w good.3 (child at 1) j p f) e (e + n) (e + 2 * n) n)
          (HasShape-merge at (Farm n s w) o (e + n) n good.0, tt),
    )
    shapes-lay (OFarm n s w) good at i o e = (
      HasShape-odeal s at (OFarm n s w) i e (e + 2 * n) n good.0,
      both (HasShape b) (lay_copies (lay (child at 1) w) (inner_edges w) e (e + n) (e + 2 * n + pick_edges s) n) _
          (shapes-lay_copies (lay (child at 1) w) (inner_edges w) (λ j p f. shapes-lay w good.3 (child at 1) j p f) e (e + n) (e + 2 * n + pick_edges s) n)
          (HasShape-omerge s at (OFarm n s w) o (e + n) (e + 2 * n) n good.0, tt),
    )
    shapes-lay (A2a n l r m t) good at i o e =
        let c = e + 2 * n in
        let d = c + n * m in (
          HasShape-deal DealInTurn at (A2a n l r m t) i e n good.0,
          both (HasShape b) (copies Stage (child at 1) l e (e + n) n) _ (shapes-copies (child at 1) l e (e + n) n)
              (both (HasShape b) (row_deals (route_kind r) at (A2a n l r m t) m (e + n) c n) _ (shapes-row_deals r at (A2a n l r m t) m (e + n) c n good.1)
              (both (HasShape b) (column_merges at (A2a n l r m t) n m c d m) _ (shapes-column_merges at (A2a n l r m t) n m c d m good.0)
              (both (HasShape b) (copies Stage (child at 2) t d (d + m) m) _ (shapes-copies (child at 2) t d (d + m) m)
              (HasShape-merge at (A2a n l r m t) o (d + m) m good.1, tt)))),
        )
    shapes-lay (Wrap n w p) good at i o e = (HasShape-master at w p i o e n good.0, shapes-workers (child at 1) w e (e + n) n good.2.1)

    shapes-parts : (ts : Trees N) → GoodParts b ts → (at : List ℕ) (k i o j e : ℕ) → AllByRecursion (HasShape b) (lay_parts at k ts i o j e)
    shapes-parts none good at k i o j e = tt
    shapes-parts (more t none) good at k i o j e = shapes-lay t good.0 (child at k) i o e
    shapes-parts (more t (more u us)) good at k i o j e =
        both (HasShape b) (lay (child at k) t i j e) (lay_parts at (k + 1) (more u us) j o (suc j) (e + inner_edges t))
        (shapes-lay t good.0 (child at k) i j e) (shapes-parts (more u us) good.1 at (k + 1) j o (suc j) (e + inner_edges t))
