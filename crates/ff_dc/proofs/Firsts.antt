-- The first of the least numbers, of two lists one behind the other.
use Rattle.std.proofs.Common.{◌≡◌, ℕ, ◌+◌, ◌<◌, Bool, true, false, not, cond, ◌⊎◌, inl, inr, List, [], ◌∷◌, ◌++◌, length, ℤ, pos, ◌<ℤ◌, ◌≤ℤ◌, refl, ap, ◌∙◌, sym, arith}
use Rattle.std.specs.Prelude.{int_le, if◌then◌else◌, ◌&&◌, ◌||◌}
use Rattle.std.specs.Int.{int_min}
use Rattle.std.proofs.lemmas.Int.{ints, clamps}
use Rattle.std.proofs.lemmas.Bool.{cases_Bool}
use Rattle.std.proofs.lemmas.List.{append-nil}
use Rattle.ff_dc.specs.Fours.{only}
use Rattle.ff_dc.specs.Values.{least, place}
use Rattle.ff_dc.specs.Joining.{firsts_joined}
use Rattle.ff_dc.specs.Rules.{firstmin_of}

-- which of two numbers is at most the other
sides : (x y : ℤ) → ((int_le x y ≡ true) × (x ≤ℤ y)) ⊎ ((int_le x y ≡ false) × (y <ℤ x))
sides x y =
    elim (cases_Bool (int_le x y)) [ inl e ↦ inl (e, grind (arith, ints)) | inr e ↦ inr (e, grind (arith, ints)) ]

or-true : (t : Bool) → (t || true) ≡ true
or-true true = refl
or-true false = refl

place-here : (m x : ℤ) (xs : List ℤ) → int_le x m ≡ true → place m (x ∷ xs) ≡ 0
place-here m x xs e = ap (λ (b : Bool). cond (not b) (1 + place m xs) 0) e

place-next : (m x : ℤ) (xs : List ℤ) → int_le x m ≡ false → place m (x ∷ xs) ≡ 1 + place m xs
place-next m x xs e = ap (λ (b : Bool). cond (not b) (1 + place m xs) 0) e

least-append : (x : ℤ) (xs : List ℤ) (y : ℤ) (ys : List ℤ) → least x (xs ++ y ∷ ys) ≡ int_min (least x xs) (least y ys)
least-append x [] y ys = refl
least-append x (z ∷ xs) y ys = omega (arith, ints, clamps, least-append z xs y ys)

-- the least is found
place-least : (m x : ℤ) (xs : List ℤ) → m ≡ least x xs → place m (x ∷ xs) < length (x ∷ xs)
place-least m x [] e =
    elim (sides x m) [ inl s ↦ omega (arith, place-here m x [] s.0) | inr s ↦ absurd (omega (arith, ints, s.1, e)) ]
place-least m x (y ∷ xs) e =
    elim (sides x m) [
      | inl s ↦ omega (arith, place-here m x (y ∷ xs) s.0)
      | inr s ↦ omega (arith, place-next m x (y ∷ xs) s.0, place-least m y xs (omega (arith, ints, clamps, s.1, e)))
    ]

-- what is found in the first list
place-first : (m : ℤ) (xs ys : List ℤ) → place m xs < length xs → place m (xs ++ ys) ≡ place m xs
place-first m [] ys h = absurd (omega arith)
place-first m (x ∷ xs) ys h =
    elim (sides x m) [
      | inl s ↦ place-here m x (xs ++ ys) s.0 ∙ sym (place-here m x xs s.0)
      | inr s ↦ place-next m x (xs ++ ys) s.0
          ∙ ap (λ (n : ℕ). 1 + n) (place-first m xs ys (omega (arith, place-next m x xs s.0)))
          ∙ sym (place-next m x xs s.0)
    ]

-- what isn't, is found behind it
place-behind : (m x : ℤ) (xs ys : List ℤ) → m <ℤ least x xs → place m ((x ∷ xs) ++ ys) ≡ length (x ∷ xs) + place m ys
place-behind m x [] ys h =
    elim (sides x m) [ inl s ↦ absurd (omega (arith, ints, s.1, h)) | inr s ↦ omega (arith, place-next m x ys s.0) ]
place-behind m x (y ∷ xs) ys h =
    elim (sides x m) [
      | inl s ↦ absurd (omega (arith, ints, clamps, s.1, h))
      | inr s ↦ omega (arith, place-next m x ((y ∷ xs) ++ ys) s.0, place-behind m y xs ys (omega (arith, ints, clamps, h)))
    ]

-- which part is taken
takes-left : (a b p q : ℤ) → int_le a b ≡ true → firsts_joined (a ∷ p ∷ pos 1 ∷ pos 0 ∷ []) (b ∷ q ∷ pos 1 ∷ pos 0 ∷ []) ≡ a ∷ p ∷ pos 1 ∷ pos 0 ∷ []
takes-left a b p q e =
    ap (λ (t : Bool). if true && (t || false) then a ∷ p ∷ pos 1 ∷ pos 0 ∷ [] else (b ∷ q ∷ pos 1 ∷ pos 0 ∷ [])) e

takes-right : (a b p q : ℤ) → int_le a b ≡ false → firsts_joined (a ∷ p ∷ pos 1 ∷ pos 0 ∷ []) (b ∷ q ∷ pos 1 ∷ pos 0 ∷ []) ≡ b ∷ q ∷ pos 1 ∷ pos 0 ∷ []
takes-right a b p q e =
    ap (λ (t : Bool). if true && (t || false) then a ∷ p ∷ pos 1 ∷ pos 0 ∷ [] else (b ∷ q ∷ pos 1 ∷ pos 0 ∷ [])) e

found : {m n : ℤ} {j k : ℕ} → m ≡ n → j ≡ k → (m ∷ pos j ∷ pos 1 ∷ pos 0 ∷ []) ≡ (n ∷ pos k ∷ pos 1 ∷ pos 0 ∷ [])
found p q = cc

takes-only : (v : List ℤ) → firsts_joined (only (pos 0)) v ≡ v
takes-only v = refl

pub firstmin-append : (lo mid : ℕ) (xs ys : List ℤ) → mid ≡ lo + length xs → firstmin_of lo (xs ++ ys) ≡ firsts_joined (firstmin_of lo xs) (firstmin_of mid ys)
firstmin-append lo mid [] ys e = ap (λ (n : ℕ). firstmin_of n ys) (let f : lo ≡ mid = omega arith in f)
firstmin-append lo mid (x ∷ xs) [] e =
    ap (λ (zs : List ℤ). firstmin_of lo zs) (append-nil (x ∷ xs))
    ∙ sym (ap (λ (t : Bool). if t then firstmin_of lo (x ∷ xs) else only (pos 0)) (or-true (int_le (least x xs) (pos 0))))
firstmin-append lo mid (x ∷ xs) (y ∷ ys) e =
    let m : ℤ = least x xs in
    let n : ℤ = least y ys in
    let both : least x (xs ++ y ∷ ys) ≡ int_min m n = least-append x xs y ys in
    elim (sides m n) [
      | inl s ↦
          let is : least x (xs ++ y ∷ ys) ≡ m = omega (arith, ints, clamps, both, s.1) in
          found is
          (ap (λ (z : ℤ). lo + place z ((x ∷ xs) ++ y ∷ ys) + 1) is
          ∙ ap (λ (k : ℕ). lo + k + 1) (place-first m (x ∷ xs) (y ∷ ys) (place-least m x xs refl)))
          ∙ sym (takes-left m n (pos (lo + place m (x ∷ xs) + 1)) (pos (mid + place n (y ∷ ys) + 1)) s.0)
      | inr s ↦
          let is : least x (xs ++ y ∷ ys) ≡ n = omega (arith, ints, clamps, both, s.1) in
          found is
          (ap (λ (z : ℤ). lo + place z ((x ∷ xs) ++ y ∷ ys) + 1) is
          ∙ (let k : lo + place n ((x ∷ xs) ++ y ∷ ys) + 1 ≡ mid + place n (y ∷ ys) + 1 = omega (arith, place-behind n x xs (y ∷ ys) s.1, e) in k))
          ∙ sym (takes-right m n (pos (lo + place m (x ∷ xs) + 1)) (pos (mid + place n (y ∷ ys) + 1)) s.0)
    ]

pub firstmin-one : (mid : ℕ) (x : ℤ) → firstmin_of mid (x ∷ []) ≡ x ∷ pos (mid + 1) ∷ pos 1 ∷ pos 0 ∷ []
firstmin-one mid x = found refl (let e : mid + place x (x ∷ []) + 1 ≡ mid + 1 = omega (arith, place-least x x [] refl) in e)

-- one number more
pub firstmin-push : (lo k : ℕ) (xs : List ℤ) (x : ℤ) (v w : List ℤ) → length xs ≡ k → v ≡ firstmin_of lo xs → w ≡ x ∷ pos (lo + k + 1) ∷ pos 1 ∷ pos 0 ∷ []
    → firsts_joined v w ≡ firstmin_of lo (xs ++ x ∷ [])
firstmin-push lo k xs x v w long p q =
    ap (λ (u : List ℤ). firsts_joined u w) p
    ∙ ap (λ (u : List ℤ). firsts_joined (firstmin_of lo xs) u) (q ∙ sym (firstmin-one (lo + k) x))
    ∙ sym (firstmin-append lo (lo + k) xs (x ∷ []) (omega (arith, long)))
