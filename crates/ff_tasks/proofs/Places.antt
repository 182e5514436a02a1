-- What stands at a place of a list.
use Rattle.std.proofs.Common.{◌≡◌, ℕ, zero, suc, ◌+◌, ◌<◌, ◌⊎◌, List, [], ◌∷◌, ◌++◌, length, map, refl, sym, ap, subst, ◌∙◌, arith, inl, inr}
use Rattle.ff_tasks.specs.Jobs.{Begins}

-- `x` stands at place `k`
abbrev pub IsAt : {A : Type 0} → ℕ → A → List A → Type 0
IsAt k x [] = ⊥
IsAt zero x (y ∷ ys) = y ≡ x
IsAt (suc k) x (y ∷ ys) = IsAt k x ys

pub IsAt-some : {A : Type 0} (k : ℕ) (xs : List A) → k < length xs → (x : A) × IsAt k x xs
IsAt-some k [] below = absurd (omega arith)
IsAt-some zero (x ∷ xs) below = (x, refl)
IsAt-some (suc k) (x ∷ xs) below = IsAt-some k xs (omega (arith, below))

pub IsAt-same : {A : Type 0} (k : ℕ) (x y : A) (xs : List A) → IsAt k x xs → IsAt k y xs → x ≡ y
IsAt-same k x y [] a b = absurd a
IsAt-same zero x y (z ∷ zs) a b = sym a ∙ b
IsAt-same (suc k) x y (z ∷ zs) a b = IsAt-same k x y zs a b

-- with more behind it
pub IsAt-append : {A : Type 0} (k : ℕ) (x : A) (xs ys : List A) → IsAt k x xs → IsAt k x (xs ++ ys)
IsAt-append k x [] ys a = absurd a
IsAt-append zero x (z ∷ zs) ys a = a
IsAt-append (suc k) x (z ∷ zs) ys a = IsAt-append k x zs ys a

pub IsAt-begins : {A : Type 0} (k : ℕ) (x : A) (xs ys : List A) → Begins xs ys → IsAt k x xs → IsAt k x ys
IsAt-begins k x xs ys begins a = subst (λ l. IsAt k x l) (sym begins.is) (IsAt-append k x xs begins.more a)

-- the last element
pub IsAt-last : {A : Type 0} (x : A) (xs : List A) → IsAt (length xs) x (xs ++ x ∷ [])
IsAt-last x [] = refl
IsAt-last x (y ∷ ys) = IsAt-last x ys

-- what stands in a list with one element more is that element, or stood there before
pub IsAt-push : {A : Type 0} (k : ℕ) (x y : A) (xs : List A) → IsAt k x (xs ++ y ∷ []) → (IsAt k x xs × (k < length xs)) ⊎ ((k ≡ length xs) × (y ≡ x))
IsAt-push zero x y [] a = inr (refl, a)
IsAt-push (suc k) x y [] a = absurd a
IsAt-push zero x y (z ∷ zs) a = inl (a, omega arith)
IsAt-push (suc k) x y (z ∷ zs) a = elim (IsAt-push k x y zs a) [
  | inl old ↦ inl (old.0, omega (arith, old.1))
  | inr new ↦ inr (ap suc new.0, new.1)
]

pub IsAt-map : {A B : Type 0} (f : A → B) (k : ℕ) (x : A) (xs : List A) → IsAt k x xs → IsAt k (f x) (map f xs)
IsAt-map f k x [] a = absurd a
IsAt-map f zero x (y ∷ ys) a = ap f a
IsAt-map f (suc k) x (y ∷ ys) a = IsAt-map f k x ys a
