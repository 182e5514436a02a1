-- Lists filtered by two tests, and tests of the numbers up to one.
use Rattle.std.proofs.Common.{◌≡◌, ℕ, suc, ◌==◌, ltb, Bool, true, false, cond, not, ◌&&◌, List, [], ◌∷◌, filter, refl, ap, ◌∙◌, arith}
use Rattle.std.proofs.lemmas.Bool.{eqb-true, eqb-false, ltb-true, ltb-false}

-- two tests one behind the other
pub filter-filter : {A : Type 0} (inner outer : A → Bool) (xs : List A) → filter inner (filter outer xs) ≡ filter (λ x. outer x && inner x) xs
filter-filter inner outer [] = refl
filter-filter {A} inner outer (x ∷ xs) = by (outer x) (filter-filter inner outer xs)
  where
    by : (e : Bool) → filter inner (filter outer xs) ≡ filter (λ y. outer y && inner y) xs
        → filter inner (cond e (x ∷ filter outer xs) (filter outer xs)) ≡ cond (e && inner x) (x ∷ filter (λ y. outer y && inner y) xs) (filter (λ y. outer y && inner y) xs)
    by true rest = ap (λ (ys : List A). cond (inner x) (x ∷ ys) ys) rest
    by false rest = rest

-- a test that everything passes, and one that nothing does
pub filter-all : {A : Type 0} (test : A → Bool) (xs : List A) → ((x : A) → test x ≡ true) → filter test xs ≡ xs
filter-all test [] all = refl
filter-all {A} test (x ∷ xs) all = ap (λ (e : Bool). cond e (x ∷ filter test xs) (filter test xs)) (all x) ∙ ap (λ (ys : List A). x ∷ ys) (filter-all test xs all)

pub filter-none : {A : Type 0} (test : A → Bool) (xs : List A) → ((x : A) → test x ≡ false) → filter test xs ≡ []
filter-none test [] none_is = refl
filter-none {A} test (x ∷ xs) none_is = ap (λ (e : Bool). cond e (x ∷ filter test xs) (filter test xs)) (none_is x) ∙ filter-none test xs none_is

-- of the numbers up to k those that are k, and the others
pub up_to-is : (a k : ℕ) → (ltb a (suc k) && (a == k)) ≡ (a == k)
up_to-is a k = by (ltb a (suc k)) (a == k) refl refl
  where
    by : (l e : Bool) → ltb a (suc k) ≡ l → (a == k) ≡ e → (l && e) ≡ e
    by true e low is = refl
    by false true low is = absurd (omega (arith, ltb-false a (suc k) low, eqb-true a k is))
    by false false low is = refl

pub up_to-other : (a k : ℕ) → (ltb a (suc k) && not (a == k)) ≡ ltb a k
up_to-other a k = by (ltb a (suc k)) (a == k) (ltb a k) refl refl refl
  where
    by : (l e c : Bool) → ltb a (suc k) ≡ l → (a == k) ≡ e → ltb a k ≡ c → (l && not e) ≡ c
    by true true true low is less = absurd (omega (arith, eqb-true a k is, ltb-true a k less))
    by true true false low is less = refl
    by true false true low is less = refl
    by true false false low is less = absurd (eqb-false a k is (omega (arith, ltb-true a (suc k) low, ltb-false a k less)))
    by false e true low is less = absurd (omega (arith, ltb-false a (suc k) low, ltb-true a k less))
    by false e false low is less = refl

pub ltb-zero : (a : ℕ) → ltb a 0 ≡ false
ltb-zero a = by (ltb a 0) refl
  where
    by : (e : Bool) → ltb a 0 ≡ e → e ≡ false
    by true is = absurd (omega (arith, ltb-true a 0 is))
    by false is = refl
