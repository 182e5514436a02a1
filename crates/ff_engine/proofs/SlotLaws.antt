-- What stands in slots once some were taken out, and once others were put back.
use Rattle.std.proofs.Common.{◌≡◌, ◌≤◌, ◌<◌, ℕ, zero, suc, Option, None, Some, List, [], ◌∷◌, ◌++◌, length, map, flat_map, get_or, set, refl, sym, ap, ap₂, ◌∙◌, subst, inl, inr, arith, eqb, cond}
use Rattle.std.proofs.lemmas.Bool.{cases_eq, cases_lt, eq-eqb, ne_eqb}
use Rattle.std.proofs.lemmas.List.{get_or-set_same, get_or-set_other, get_or_past, length-set, map-set, set_past}
use Rattle.std.proofs.lemmas.List.Elements.{All-cons, All-head, All-tail}
use Rattle.std.proofs.lemmas.Option.{none-some}
use Rattle.std.specs.List.{All, AllZip}
use Rattle.std.specs.Option.{option_map}
use Rattle.ff_rec.specs.Weights.{weigh}
use Rattle.ff_steps.proofs.Heads.{head-same, tail-same, cons≢nil}
use Rattle.ff_engine.specs.Slots.{slot, taken_out, emptied, Holds, placed, placed_all, EachKept}

-- how often a number stands in a list
abbrev pub is : ℕ → ℕ → ℕ
is e k = cond (eqb k e) 1 0

abbrev pub times : ℕ → List ℕ → ℕ
times e ks = weigh (is e) ks

pub is-same : (e k : ℕ) → k ≡ e → is e k ≡ 1
is-same e k same = ap (λ c. cond c 1 0) (eq-eqb k e same)

pub is-other : (e k : ℕ) → (k ≡ e → ⊥) → is e k ≡ 0
is-other e k other = ap (λ c. cond c 1 0) (ne_eqb k e other)

-- where a number stands at most once, it stands no more behind its place
behind-once : (k : ℕ) (ks : List ℕ) → times k (k ∷ ks) ≤ 1 → times k ks ≡ 0
behind-once k ks once = omega (arith, is-same k k refl, once)

-- the number in front stands there
front-once : (k : ℕ) (ks : List ℕ) → 1 ≤ times k (k ∷ ks)
front-once k ks = omega (arith, is-same k k refl)

-- functions that agree at the numbers of a list give the same there
pub map-agree : {B : Type 0} (f g : ℕ → B) (ks : List ℕ) → ((e : ℕ) → 1 ≤ times e ks → f e ≡ g e) → map f ks ≡ map g ks
map-agree f g [] agree = refl
map-agree f g (k ∷ ks) agree =
    ap₂ (λ x xs. x ∷ xs) (agree k (front-once k ks)) (map-agree f g ks (λ e some. agree e (omega (arith, some))))

-- numbers that aren't below `n` don't stand there
pub All-below : (n : ℕ) (ks : List ℕ) → ((e : ℕ) → n ≤ e → times e ks ≡ 0) → All (λ e. e < n) ks
All-below n [] none = λ k d within. absurd (omega (arith, within))
All-below n (k ∷ ks) none = All-cons (λ e. e < n) k ks below (All-below n ks (λ e high. omega (arith, none e high)))
  where
    below : k < n
    below = elim (cases_lt k n) [
      | inl low ↦ low
      | inr high ↦ absurd (omega (arith, none k high, is-same k k refl))
    ]

module _ {A : Type 0} where
  pub slot-set_same : (slots : List (Option A)) (e : ℕ) (x : Option A) → e < length slots → slot (set slots e x) e ≡ x
  slot-set_same slots e x within = get_or-set_same slots e x None within

  pub slot-set_other : (slots : List (Option A)) (k e : ℕ) (x : Option A) → (e ≡ k → ⊥) → slot (set slots k x) e ≡ slot slots e
  slot-set_other slots k e x other = get_or-set_other slots k e x None other

  -- what is kept is within
  pub slot-within : (slots : List (Option A)) (e : ℕ) (x : A) → slot slots e ≡ Some x → e < length slots
  slot-within slots e x is_there = elim (cases_lt e (length slots)) [
    | inl low ↦ low
    | inr high ↦ absurd (none-some x (sym (get_or_past slots e None high) ∙ is_there))
  ]

  -- an emptied slot keeps nothing
  slot-set_None : (slots : List (Option A)) (k : ℕ) → slot (set slots k None) k ≡ None
  slot-set_None slots k = elim (cases_lt k (length slots)) [
    | inl low ↦ slot-set_same slots k None low
    | inr high ↦ ap (λ s. slot s k) (set_past slots k None high) ∙ get_or_past slots k None high
  ]

  -- taking out leaves nothing else than was there
  EachKept-set_None : (P : ℕ → A → Type 0) (slots : List (Option A)) (k : ℕ) → EachKept P slots → EachKept P (set slots k None)
  EachKept-set_None P slots k each e a is_there = elim (cases_eq e k) [
    | inl same ↦ absurd (none-some a (sym (slot-set_None slots k) ∙ ap (λ i. slot (set slots k None) i) (sym same) ∙ is_there))
    | inr other ↦ each e a (sym (slot-set_other slots k e None other) ∙ is_there)
  ]

  pub EachKept-emptied : (P : ℕ → A → Type 0) (ks : List ℕ) (slots : List (Option A)) → EachKept P slots → EachKept P (emptied ks slots)
  EachKept-emptied P [] slots each = each
  EachKept-emptied P (k ∷ ks) slots each = EachKept-emptied P ks (set slots k None) (EachKept-set_None P slots k each)

  pub length-emptied : (ks : List ℕ) (slots : List (Option A)) → length (emptied ks slots) ≡ length slots
  length-emptied [] slots = refl
  length-emptied (k ∷ ks) slots = length-emptied ks (set slots k None) ∙ length-set slots k None

  -- what was taken out is so, each by its number
  pub AllZip-taken_out : (P : ℕ → A → Type 0) (ks : List ℕ) (slots : List (Option A)) (xs : List A) → EachKept P slots
      → map (λ x. Some x) xs ≡ taken_out ks slots → AllZip P ks xs
  AllZip-taken_out P [] slots [] each are = tt
  AllZip-taken_out P [] slots (x ∷ xs) each are = absurd (cons≢nil are)
  AllZip-taken_out P (k ∷ ks) slots [] each are = absurd (cons≢nil (sym are))
  AllZip-taken_out P (k ∷ ks) slots (x ∷ xs) each are =
      (each k x (sym (head-same are)), AllZip-taken_out P ks (set slots k None) xs (EachKept-set_None P slots k each) (tail-same are))

  -- some can be taken out, and others behind them
  pub Holds-append : (ks js : List ℕ) (slots : List (Option A)) → Holds (ks ++ js) slots → Holds ks slots × Holds js (emptied ks slots)
  Holds-append [] js slots holds = (tt, holds)
  Holds-append (k ∷ ks) js slots holds =
      let rest = Holds-append ks js (set slots k None) holds.1 in
      ((holds.0, rest.0), rest.1)

  -- numbers that each stand once can be taken out where something is kept at each
  pub Holds-once : (ks : List ℕ) (slots : List (Option A)) → ((e : ℕ) → times e ks ≤ 1) → ((e : ℕ) → 1 ≤ times e ks → (a : A) × (slot slots e ≡ Some a)) → Holds ks slots
  Holds-once [] slots once kept = tt
  Holds-once (k ∷ ks) slots once kept =
      (kept k (front-once k ks), Holds-once ks (set slots k None) (λ e. omega (arith, once e)) rest)
    where
      rest : (e : ℕ) → 1 ≤ times e ks → (a : A) × (slot (set slots k None) e ≡ Some a)
      rest e some =
          let at = kept e (omega (arith, some)) in
          (at.0, slot-set_other slots k e None (λ same. absurd (omega (arith, some, behind-once k ks (once k), ap (λ i. times i ks) same))) ∙ at.1)

  pub length-placed : (ks : List ℕ) (xs : List A) (slots : List (Option A)) → length (placed ks xs slots) ≡ length slots
  length-placed [] xs slots = refl
  length-placed (k ∷ ks) [] slots = length-placed ks [] (set slots k None) ∙ length-set slots k None
  length-placed (k ∷ ks) (x ∷ xs) slots = length-placed ks xs (set slots k (Some x)) ∙ length-set slots k (Some x)

  -- some were put, and others behind them
  placed-append : (ks : List ℕ) (xs : List A) (js : List ℕ) (ys : List A) (slots : List (Option A)) → length xs ≡ length ks
      → placed (ks ++ js) (xs ++ ys) slots ≡ placed js ys (placed ks xs slots)
  placed-append [] [] js ys slots long = refl
  placed-append [] (x ∷ xs) js ys slots long = absurd (omega (arith, long))
  placed-append (k ∷ ks) [] js ys slots long = absurd (omega (arith, long))
  placed-append (k ∷ ks) (x ∷ xs) js ys slots long = placed-append ks xs js ys (set slots k (Some x)) (omega (arith, long))

  -- other slots stay
  slot-placed : (ks : List ℕ) (xs : List A) (slots : List (Option A)) (e : ℕ) → times e ks ≡ 0 → slot (placed ks xs slots) e ≡ slot slots e
  slot-placed [] xs slots e none = refl
  slot-placed (k ∷ ks) [] slots e none =
      slot-placed ks [] (set slots k None) e (omega (arith, none))
      ∙ slot-set_other slots k e None (λ same. absurd (omega (arith, none, is-same e k (sym same))))
  slot-placed (k ∷ ks) (x ∷ xs) slots e none =
      slot-placed ks xs (set slots k (Some x)) e (omega (arith, none))
      ∙ slot-set_other slots k e (Some x) (λ same. absurd (omega (arith, none, is-same e k (sym same))))

  -- at numbers that each stand once stands what was put
  pub map-slot-placed : (ks : List ℕ) (xs : List A) (slots : List (Option A)) → ((e : ℕ) → times e ks ≤ 1) → All (λ e. e < length slots) ks → length xs ≡ length ks
      → map (λ e. slot (placed ks xs slots) e) ks ≡ map (λ x. Some x) xs
  map-slot-placed [] [] slots once within long = refl
  map-slot-placed [] (x ∷ xs) slots once within long = absurd (omega (arith, long))
  map-slot-placed (k ∷ ks) [] slots once within long = absurd (omega (arith, long))
  map-slot-placed (k ∷ ks) (x ∷ xs) slots once within long =
      ap₂ (λ y ys. y ∷ ys)
      (slot-placed ks xs (set slots k (Some x)) k (behind-once k ks (once k)) ∙ slot-set_same slots k (Some x) (All-head (λ e. e < length slots) k ks within))
      (map-slot-placed ks xs (set slots k (Some x)) (λ e. omega (arith, once e))
      (subst (λ n. All (λ e. e < n) ks) (sym (length-set slots k (Some x))) (All-tail (λ e. e < length slots) k ks within)) (omega (arith, long)))

  -- what is put at a number by a function of it stands there, also where that is done again
  pub slot-placed-map : (f : ℕ → A) (ks : List ℕ) (slots : List (Option A)) (e : ℕ) → All (λ k. k < length slots) ks → 1 ≤ times e ks
      → slot (placed ks (map f ks) slots) e ≡ Some (f e)
  slot-placed-map f [] slots e within some = absurd (omega (arith, some))
  slot-placed-map f (k ∷ ks) slots e within some = elim (cases_lt 0 (times e ks)) [
    | inl again ↦ slot-placed-map f ks (set slots k (Some (f k))) e within' (omega (arith, again))
    | inr gone ↦ slot-placed ks (map f ks) (set slots k (Some (f k))) e (omega (arith, gone)) ∙ last (omega (arith, gone))
  ]
    where
      within' : All (λ j. j < length (set slots k (Some (f k)))) ks
      within' = subst (λ n. All (λ j. j < n) ks) (sym (length-set slots k (Some (f k)))) (All-tail (λ j. j < length slots) k ks within)

      last : times e ks ≡ 0 → slot (set slots k (Some (f k))) e ≡ Some (f e)
      last gone = elim (cases_eq k e) [
        | inl same ↦ subst (λ i. slot (set slots k (Some (f k))) i ≡ Some (f i)) same (slot-set_same slots k (Some (f k)) (All-head (λ j. j < length slots) k ks within))
        | inr other ↦ absurd (omega (arith, some, gone, is-other e k other))
      ]

  -- what was put list by list, as one list
  pub placed_all-flat : {J : Type 0} (at : J → List ℕ) (has : J → List A) (js : List J) (slots : List (Option A)) → All (λ j. length (has j) ≡ length (at j)) js
      → placed_all at has js slots ≡ placed (flat_map at js) (flat_map has js) slots
  placed_all-flat at has [] slots long = refl
  placed_all-flat at has (j ∷ js) slots long =
      placed_all-flat at has js (placed (at j) (has j) slots) (All-tail (λ i. length (has i) ≡ length (at i)) j js long)
      ∙ sym (placed-append (at j) (has j) (flat_map at js) (flat_map has js) slots (All-head (λ i. length (has i) ≡ length (at i)) j js long))

-- what is seen of the slots is put as it is seen
pub map-placed : {A B : Type 0} (f : A → B) (ks : List ℕ) (xs : List A) (slots : List (Option A))
    → map (λ o. option_map f o) (placed ks xs slots) ≡ placed ks (map f xs) (map (λ o. option_map f o) slots)
map-placed f [] xs slots = refl
map-placed f (k ∷ ks) [] slots =
    map-placed f ks [] (set slots k None) ∙ ap (λ s. placed ks [] s) (map-set (λ o. option_map f o) slots k None)
map-placed f (k ∷ ks) (x ∷ xs) slots =
    map-placed f ks xs (set slots k (Some x)) ∙ ap (λ s. placed ks (map f xs) s) (map-set (λ o. option_map f o) slots k (Some x))

-- what stands in a slot, as it is seen
pub map-at : {X B : Type 0} (f : X → Option B) (xs : List X) (k : ℕ) (x : X) → k < length xs → x ≡ get_or xs k x → slot (map f xs) k ≡ f x
map-at f [] k x within is_at = absurd (omega (arith, within))
map-at f (y ∷ xs) zero x within is_at = ap f (sym is_at)
map-at f (y ∷ xs) (suc k) x within is_at = map-at f xs k x (omega (arith, within)) is_at

-- once those of the next list were put, as they are seen, those of the others are left
pub placed_all-next : {J E A : Type 0} (f : E → A) (at : J → List ℕ) (has : J → List A) (j : J) (js rest : List J) (ks : List ℕ) (xs : List E) (slots slots' : List (Option E))
    (all : List (Option A)) → rest ≡ j ∷ js → slots' ≡ placed ks xs slots → ks ≡ at j → map f xs ≡ has j
    → placed_all at has rest (map (λ o. option_map f o) slots) ≡ all → placed_all at has js (map (λ o. option_map f o) slots') ≡ all
placed_all-next f at has j js rest ks xs slots slots' all next placed_so where_at what before =
    ap (λ s. placed_all at has js s)
    (ap (map (λ o. option_map f o)) placed_so ∙ map-placed f ks xs slots ∙ ap₂ (λ es ys. placed es ys (map (λ o. option_map f o) slots)) where_at what)
    ∙ ap (λ l. placed_all at has l (map (λ o. option_map f o) slots)) (sym next) ∙ before

-- the first of several, and the others
pub All-front : {A : Type 0} (P : A → Type 0) (xs ys : List A) → All P (xs ++ ys) → All P xs
All-front P [] ys all = λ k d within. absurd (omega (arith, within))
All-front P (x ∷ xs) ys all = All-cons P x xs (All-head P x (xs ++ ys) all) (All-front P xs ys (All-tail P x (xs ++ ys) all))

pub All-back : {A : Type 0} (P : A → Type 0) (xs ys : List A) → All P (xs ++ ys) → All P ys
All-back P [] ys all = all
All-back P (x ∷ xs) ys all = All-back P xs ys (All-tail P x (xs ++ ys) all)
