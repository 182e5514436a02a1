-- An ordered farm of which the merge awaits a place: then the deal wants a record.
use Rattle.std.proofs.Common.{◌≡◌, ◌≢◌, ◌⊎◌, ℕ, zero, suc, ◌+◌, ◌<◌, ◌≤◌, [], ◌∷◌, ◌++◌, length, refl, sym, ap, subst, ◌∙◌, inl, inr, arith, append-nil}
use Rattle.std.specs.Prelude.{slice_index}
use Rattle.std.proofs.lemmas.Bool.Decides.{eqb_tells}
use Rattle.ff_node.specs.Fits.{marks}
use Rattle.ff_plan.specs.Rows.{range}
use Rattle.ff_sweeps.proofs.Moments.{Moment, Dry, Closed, InOrder, Passed, KeepsMarks, IsBlocked, DealtOrder, Awaits}
use Rattle.ff_unit.proofs.Rests.{turn, turns_of, MarkLast}
use Rattle.ff_sweeps.proofs.Bands.{all-at}
use Rattle.ff_unit.proofs.TurnMarks.{turn-below, turns_of-next, turns_of-grows, fewer_turns, marks-append, mark_in_end}

pub length-range : (e n : ℕ) → length (range e n) ≡ n
length-range e zero = refl
length-range e (suc n) = ap suc (length-range (suc e) n)

pub range-at : (e n j : ℕ) → j < n → slice_index (range e n) j ≡ e + j
range-at e zero j below = absurd (omega (arith, below))
range-at e (suc n) zero below = omega arith
range-at e (suc n) (suc j) below =
    let rest = range-at (suc e) n j (omega (arith, below)) in
    omega (arith, rest)

-- what a worker of an ordered farm does between its edges
pub record Works (v : Moment) (i o : ℕ) : Type 0 where
  pub keeps : KeepsMarks v i o
  pub dry : Dry v o → Dry v i
  pub ends : Dry v o → Closed v i → Closed v o

-- the deal, and the merge, by the numbers of their edges
pub record BlockedIn (v : Moment) (e n number : ℕ) : Type 0 where
  pub k : ℕ
  pub below : k < n
  pub wet : Dry v (e + k) → ⊥
  pub where_it_is : (k ≡ turn n number) ⊎ MarkLast (v.put (e + k))

pub record DealtIn (v : Moment) (i e n : ℕ) (Ended : Type 0) : Type 0 where
  pub number : ℕ
  pub dealt : (j : ℕ) → j < n → marks (v.put (e + j)) ≡ turns_of n number j
  pub state : BlockedIn v e n number ⊎ Passed v (i ∷ []) (range e n) Ended

pub record AwaitsIn (v : Moment) (f n : ℕ) : Type 0 where
  pub number : ℕ
  pub dry : Dry v (f + turn n number)
  pub unclosed : Closed v (f + turn n number) → ⊥
  pub merged : (j : ℕ) → j < n → marks (v.got (f + j)) ≡ turns_of n number j

module _ (v : Moment) where
  pub dealt_in : (i e n : ℕ) (Ended : Type 0) → DealtOrder v (i ∷ []) (range e n) Ended → DealtIn v i e n Ended
  dealt_in i e n Ended deal = record {
    number = deal.number;
    dealt = λ j below. subst (λ m. marks (v.put (e + j)) ≡ turns_of m deal.number j) (length-range e n)
        (subst (λ k. marks (v.put k) ≡ turns_of (length (range e n)) deal.number j) (range-at e n j below)
        (deal.dealt j (subst (λ m. j < m) (sym (length-range e n)) below)));
    state = by deal.state;
  }
    where
      by : IsBlocked v (range e n) deal.number ⊎ Passed v (i ∷ []) (range e n) Ended → BlockedIn v e n deal.number ⊎ Passed v (i ∷ []) (range e n) Ended
      by (inr passed) = inr passed
      by (inl blocked) =
          let below : blocked.k < n = subst (λ m. blocked.k < m) (length-range e n) blocked.below in
          let there = range-at e n blocked.k below in
          inl (record {
            k = blocked.k;
            below = below;
            wet = subst (λ k. Dry v k → ⊥) there blocked.wet;
            where_it_is = subst (λ k. (blocked.k ≡ turn n deal.number) ⊎ MarkLast (v.put k)) there
                (subst (λ m. (blocked.k ≡ turn m deal.number) ⊎ MarkLast (v.put (slice_index (range e n) blocked.k))) (length-range e n) blocked.where_it_is);
          })

  pub awaits_in : (f n : ℕ) → 1 ≤ n → Awaits v (range f n) → AwaitsIn v f n
  awaits_in f n some wait =
      let w = turn n wait.number in
      let there : slice_index (range f n) (turn (length (range f n)) wait.number) ≡ f + w =
      subst (λ m. slice_index (range f n) (turn m wait.number) ≡ f + w) (sym (length-range f n)) (range-at f n w (turn-below n wait.number some)) in
      record {
        number = wait.number;
        dry = subst (λ k. Dry v k) there wait.dry;
        unclosed = subst (λ k. Closed v k → ⊥) there wait.unclosed;
        merged = λ j below. subst (λ m. marks (v.got (f + j)) ≡ turns_of m wait.number j) (length-range f n)
            (subst (λ k. marks (v.got k) ≡ turns_of (length (range f n)) wait.number j) (range-at f n j below)
            (wait.merged j (subst (λ m. j < m) (sym (length-range f n)) below)));
      }

module _ (v : Moment) (in_order : InOrder v) where
  -- what was got has no more Marks than what was put
  pub got-fewer : (e : ℕ) → marks (v.got e) ≤ marks (v.put e)
  got-fewer e =
      let rest = in_order e in
      omega (arith, ap marks rest.1, marks-append (v.got e) rest.0)

  -- an edge on which a Mark is last, and of which all Marks were got, is dry
  all_got : (e : ℕ) → MarkLast (v.put e) → marks (v.put e) ≤ marks (v.got e) → (Dry v e → ⊥) → ⊥
  all_got e last all wet =
      let rest = in_order e in
      let some : rest.0 ≡ [] → ⊥ = λ none. wet (rest.1 ∙ ap (λ ms. v.got e ++ ms) none ∙ append-nil (v.got e)) in
      let one = mark_in_end (v.got e) rest.0 (subst MarkLast rest.1 last) some in
      omega (arith, one, all, ap marks rest.1, marks-append (v.got e) rest.0)

  module _ (i e f n : ℕ) (Ended : Type 0) (some : 1 ≤ n) (works : (j : ℕ) → j < n → Works v (e + j) (f + j)) where
    -- the deal isn't blocked, since all places before the awaited one were merged, and the awaited one wasn't dealt
    not_blocked : (number : ℕ) (blocked : BlockedIn v e n number) → (dealt : (j : ℕ) → j < n → marks (v.put (e + j)) ≡ turns_of n number j)
        → (merged : (j : ℕ) → j < n → marks (v.got (f + j)) ≡ turns_of n number j) → Dry v (e + turn n number) → ⊥
    not_blocked number blocked dealt merged dry = elim blocked.where_it_is [
      | inl is ↦ blocked.wet (subst (λ k. Dry v (e + k)) (sym is) dry)
      | inr last ↦
          let put = dealt blocked.k blocked.below in
          let got = merged blocked.k blocked.below in
          let fewer = (works blocked.k blocked.below).keeps.fewer in
          let less : marks (v.put (e + blocked.k)) ≤ marks (v.got (e + blocked.k)) = omega (arith, put, got, got-fewer (f + blocked.k), fewer) in
          all_got (e + blocked.k) last less blocked.wet
    ]

    pub order : DealtIn v i e n Ended → AwaitsIn v f n → Dry v i × (Closed v i → ⊥)
    order deal wait =
        let w = turn n wait.number in
        let below = turn-below n wait.number some in
        let worker = works w below in
        let dry = worker.dry wait.dry in
        let put = deal.dealt w below in
        let got = wait.merged w below in
        let same = worker.keeps.same wait.dry wait.unclosed in
        let as_many : turns_of n wait.number w ≡ turns_of n deal.number w = omega (arith, put, got, same, ap marks wait.dry, ap marks dry) in
        let each : (j : ℕ) → j < n → turns_of n wait.number j ≤ turns_of n deal.number j =
        λ j within. omega (arith, deal.dealt j within, wait.merged j within, got-fewer (f + j), (works j within).keeps.fewer, got-fewer (e + j)) in
        let less = fewer_turns n wait.number deal.number some each in
        let all : wait.number ≡ deal.number = at_most wait.number deal.number less as_many in
        by deal (λ closed. wait.unclosed (worker.ends wait.dry closed)) below
        (λ blocked. not_blocked deal.number blocked deal.dealt
        (subst (λ number. (j : ℕ) → j < n → marks (v.got (f + j)) ≡ turns_of n number j) all wait.merged)
        (subst (λ number. Dry v (e + turn n number)) all dry))
      where
        at_most : (l k : ℕ) → l ≤ k → turns_of n l (turn n l) ≡ turns_of n k (turn n l) → l ≡ k
        at_most l k less same = elim (eqb_tells l k) [
          | inl h ↦ h.1
          | inr h ↦
              let other : l ≢ k = h.1 in
              let before : suc l ≤ k = omega arith in
              absurd (omega (arith, turns_of-grows n (turn n l) (suc l) k before, turns_of-next n l, same))
        ]

        by : (deal : DealtIn v i e n Ended) → (Closed v (e + turn n wait.number) → ⊥) → turn n wait.number < n → (BlockedIn v e n deal.number → ⊥) → Dry v i × (Closed v i → ⊥)
        by deal unclosed below free = elim deal.state [
          | inl blocked ↦ absurd (free blocked)
          | inr passed ↦ (passed.dry.0, λ closed. unclosed (all-at (Closed v) e n (passed.ends (closed, tt)).0 (turn n wait.number) below))
        ]
