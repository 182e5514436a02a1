-- Sums of weights, and lists that no weight tells apart.
use Rattle.std.proofs.Common.{◌≡◌, ℕ, ◌+◌, ◌<◌, Bool, true, false, cond, List, [], ◌∷◌, ◌++◌, map, length, filter, not, Decides, refl, sym, ap, ◌∙◌, inl, inr, arith}
use Rattle.std.proofs.lemmas.Bool.{cases_Bool, cond-true, cond-false}
use Rattle.std.specs.List.{flat_map}
use Rattle.ff_rec.specs.Weights.{weigh, Same}

-- the weight of two lists in a row
pub weigh-append : {A : Type 0} (h : A → ℕ) (xs ys : List A) → weigh h (xs ++ ys) ≡ weigh h xs + weigh h ys
weigh-append h [] ys = omega arith
weigh-append h (x ∷ xs) ys = omega (arith, weigh-append h xs ys)

-- an element in the middle weighs as one in front
pub weigh-middle : {A : Type 0} (h : A → ℕ) (x : A) (front back : List A) → weigh h (front ++ x ∷ back) ≡ h x + weigh h (front ++ back)
weigh-middle h x front back = omega (arith, weigh-append h front (x ∷ back), weigh-append h front back)

-- `Same` is reflexive, symmetric and transitive
pub Same-refl : {A : Type 0} (xs : List A) → Same xs xs
Same-refl xs = record { by = λ h. refl }

pub Same-≡ : {A : Type 0} (xs ys : List A) → xs ≡ ys → Same xs ys
Same-≡ xs ys e = record { by = λ h. ap (weigh h) e }

pub Same-sym : {A : Type 0} {xs ys : List A} → Same xs ys → Same ys xs
Same-sym s = record { by = λ h. sym (s.by h) }

pub Same-trans : {A : Type 0} {xs ys zs : List A} → Same xs ys → Same ys zs → Same xs zs
Same-trans s t = record { by = λ h. s.by h ∙ t.by h }

-- one more element in front of both, and its removal
pub Same-cons : {A : Type 0} (x : A) {xs ys : List A} → Same xs ys → Same (x ∷ xs) (x ∷ ys)
Same-cons x s = record { by = λ h. omega (arith, s.by h) }

pub Same-uncons : {A : Type 0} (x : A) {xs ys : List A} → Same (x ∷ xs) (x ∷ ys) → Same xs ys
Same-uncons x s = record { by = λ h. omega (arith, s.by h) }

-- lists in a row
pub Same-append : {A : Type 0} {xs ys us vs : List A} → Same xs ys → Same us vs → Same (xs ++ us) (ys ++ vs)
Same-append {A} {xs} {ys} {us} {vs} s t = record { by = λ h. omega (arith, weigh-append h xs us, weigh-append h ys vs, s.by h, t.by h) }

-- an element in the middle is as one in front
pub Same-middle : {A : Type 0} (x : A) (front back : List A) → Same (front ++ x ∷ back) (x ∷ (front ++ back))
Same-middle x front back = record { by = λ h. weigh-middle h x front back }

-- nothing is the same as nothing alone
pub Same-nil : {A : Type 0} (ys : List A) → Same [] ys → ys ≡ []
Same-nil [] s = refl
Same-nil (y ∷ ys) s = absurd (omega (arith, s.by (λ _. 1)))

-- as many elements
pub weigh-one : {A : Type 0} (xs : List A) → weigh (λ _. 1) xs ≡ length xs
weigh-one [] = refl
weigh-one (x ∷ xs) = omega (arith, weigh-one xs)

pub Same-length : {A : Type 0} {xs ys : List A} → Same xs ys → length xs ≡ length ys
Same-length {A} {xs} {ys} s = sym (weigh-one xs) ∙ s.by (λ _. 1) ∙ weigh-one ys

-- what a function makes of each element, one or a list of them
pub weigh-map : {A B : Type 0} (h : B → ℕ) (f : A → B) (xs : List A) → weigh h (map f xs) ≡ weigh (λ x. h (f x)) xs
weigh-map h f [] = refl
weigh-map h f (x ∷ xs) = ap (λ n. h (f x) + n) (weigh-map h f xs)

pub weigh-flat_map : {A B : Type 0} (h : B → ℕ) (f : A → List B) (xs : List A) → weigh h (flat_map f xs) ≡ weigh (λ x. weigh h (f x)) xs
weigh-flat_map h f [] = refl
weigh-flat_map h f (x ∷ xs) = weigh-append h (f x) (flat_map f xs) ∙ ap (λ n. weigh h (f x) + n) (weigh-flat_map h f xs)

pub Same-flat_map : {A B : Type 0} (f : A → List B) {xs ys : List A} → Same xs ys → Same (flat_map f xs) (flat_map f ys)
Same-flat_map f {xs} {ys} s = record { by = λ h. weigh-flat_map h f xs ∙ s.by (λ x. weigh h (f x)) ∙ sym (weigh-flat_map h f ys) }

-- what a test keeps
pub weigh-filter : {A : Type 0} (h : A → ℕ) (test : A → Bool) (xs : List A) → weigh h (filter test xs) ≡ weigh (λ x. cond (test x) (h x) 0) xs
weigh-filter h test [] = refl
weigh-filter {A} h test (x ∷ xs) = by (test x) (weigh-filter h test xs)
  where
    by : (b : Bool) → weigh h (filter test xs) ≡ weigh (λ y. cond (test y) (h y) 0) xs
        → weigh h (cond b (x ∷ filter test xs) (filter test xs)) ≡ cond b (h x) 0 + weigh (λ y. cond (test y) (h y) 0) xs
    by true rest = ap (λ n. h x + n) rest
    by false rest = omega arith

pub Same-filter : {A : Type 0} (test : A → Bool) {xs ys : List A} → Same xs ys → Same (filter test xs) (filter test ys)
Same-filter test {xs} {ys} s = record { by = λ h. weigh-filter h test xs ∙ s.by (λ x. cond (test x) (h x) 0) ∙ sym (weigh-filter h test ys) }

-- what a test keeps and what it leaves are the whole
pub Same-parted : {A : Type 0} (test : A → Bool) (xs : List A) → Same xs (filter test xs ++ filter (λ x. not (test x)) xs)
Same-parted test [] = Same-refl []
Same-parted {A} test (x ∷ xs) = by (test x) (Same-parted test xs)
  where
    by : (b : Bool) → Same xs (filter test xs ++ filter (λ y. not (test y)) xs)
        → Same (x ∷ xs) (cond b (x ∷ filter test xs) (filter test xs) ++ cond (not b) (x ∷ filter (λ y. not (test y)) xs) (filter (λ y. not (test y)) xs))
    by true s = Same-cons x s
    by false s = Same-trans (Same-cons x s) (Same-sym (Same-middle x (filter test xs) (filter (λ y. not (test y)) xs)))

-- the place of `x` in `ys`, and what is left of both lists without it
pub record IsPicked {A : Type 0} (x : A) (xs ys : List A) : Type 0 where
  pub front : List A
  pub back : List A
  pub is : ys ≡ front ++ x ∷ back
  pub rest : Same xs (front ++ back)

-- a list with a place of `x` in it
pub record IsFound {A : Type 0} (x : A) (ys : List A) : Type 0 where
  pub front : List A
  pub back : List A
  pub is : ys ≡ front ++ x ∷ back

-- 1 where the test finds the element to be `x`, else 0
abbrev pub mark : {A : Type 0} → (A → A → Bool) → A → A → ℕ
mark test x y = cond (test x y) 1 0

-- elements that a test tells apart
module _ {A : Type 0} (test : A → A → Bool) (decides : (x y : A) → Decides (test x y) (x ≡ y)) where
  pub mark-same : (x : A) → mark test x x ≡ 1
  mark-same x = cond-true (test x x) 1 0 ((decides x x).1 refl)

  -- what weighs something in a list stands there
  pub IsFound-weigh : (x : A) (ys : List A) → 0 < weigh (mark test x) ys → IsFound x ys
  IsFound-weigh x [] some = absurd (omega arith)
  IsFound-weigh x (y ∷ ys) some = elim (cases_Bool (test x y)) [
    | inl e ↦ record { front = []; back = ys; is = ap (λ z. z ∷ ys) (sym ((decides x y).0 e)) }
    | inr e ↦ let light : mark test x y ≡ 0 = cond-false (test x y) 1 0 e in
        let found = IsFound-weigh x ys (omega arith) in
        record { front = y ∷ found.front; back = found.back; is = ap (λ rest. y ∷ rest) found.is }
  ]

  -- the first of the one list stands in the other
  pub Same-pick : (x : A) (xs ys : List A) → Same (x ∷ xs) ys → IsPicked x xs ys
  Same-pick x xs ys s =
      let found = IsFound-weigh x ys (omega (arith, mark-same x, s.by (mark test x))) in
      record {
        front = found.front;
        back = found.back;
        is = found.is;
        rest = Same-uncons x (Same-trans s (Same-trans (Same-≡ ys _ found.is) (Same-middle x found.front found.back)));
      }

  -- lists in which each element weighs the same by its mark
  pub Same-marks : (xs ys : List A) → ((x : A) → weigh (mark test x) xs ≡ weigh (mark test x) ys) → Same xs ys
  Same-marks [] [] marks = Same-refl []
  Same-marks [] (y ∷ ys) marks = absurd (omega (arith, mark-same y, marks y))
  Same-marks (x ∷ xs) ys marks =
      let found = IsFound-weigh x ys (omega (arith, mark-same x, marks x)) in
      let rest = Same-marks xs (found.front ++ found.back)
      (λ z. omega (arith, marks z, ap (weigh (mark test z)) found.is, weigh-middle (mark test z) x found.front found.back)) in
      Same-trans (Same-cons x rest) (Same-sym (Same-trans (Same-≡ ys _ found.is) (Same-middle x found.front found.back)))
