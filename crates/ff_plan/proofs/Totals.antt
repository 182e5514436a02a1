-- Sums over places.
use Rattle.std.proofs.Common.{◌≡◌, ℕ, zero, suc, ◌+◌, ◌<◌, ◌≤◌, ◌==◌, Bool, true, false, cond, ◌≢◌, sym, refl, arith}
use Rattle.std.proofs.lemmas.Bool.{eqb-true, eqb-false}

-- f 0 + .. + f (n - 1)
abbrev pub total : ℕ → (ℕ → ℕ) → ℕ
total zero f = 0
total (suc n) f = total n f + f n

-- functions that agree on the places
pub total-same : (n : ℕ) (f g : ℕ → ℕ) → ((j : ℕ) → j < n → f j ≡ g j) → total n f ≡ total n g
total-same zero f g same = refl
total-same (suc n) f g same =
    let front = total-same n f g (λ j below. same j (omega (arith, below))) in
    omega (arith, front, same n (omega arith))

pub total-zero : (n : ℕ) → total n (λ j. 0) ≡ 0
total-zero zero = refl
total-zero (suc n) = omega (arith, total-zero n)

pub total-plus : (n : ℕ) (f g : ℕ → ℕ) → total n (λ j. f j + g j) ≡ total n f + total n g
total-plus zero f g = refl
total-plus (suc n) f g = omega (arith, total-plus n f g)

-- what stands at one place alone
total-none : (n w c : ℕ) → n ≤ w → total n (λ j. cond (w == j) c 0) ≡ 0
total-none zero w c past = refl
total-none (suc n) w c past = by (w == n) refl (total-none n w c (omega (arith, past)))
  where
    by : (e : Bool) → (w == n) ≡ e → total n (λ j. cond (w == j) c 0) ≡ 0 → total n (λ j. cond (w == j) c 0) + cond e c 0 ≡ 0
    by true is rest = absurd (omega (arith, past, eqb-true w n is))
    by false is rest = omega (arith, rest)

pub total-one : (n w c : ℕ) → w < n → total n (λ j. cond (w == j) c 0) ≡ c
total-one zero w c below = absurd (omega (arith, below))
total-one (suc n) w c below = by (w == n) refl (total-one n w c)
  where
    by : (e : Bool) → (w == n) ≡ e → (w < n → total n (λ j. cond (w == j) c 0) ≡ c) → total n (λ j. cond (w == j) c 0) + cond e c 0 ≡ c
    by true is rest = omega (arith, total-none n w c (omega (arith, eqb-true w n is)))
    by false is rest =
        let other : w ≢ n = eqb-false w n is in
        let low : w < n = omega (arith, below, other) in
        omega (arith, rest low)

-- sums of sums, either way round
pub total-total : (m n : ℕ) (f : ℕ → ℕ → ℕ) → total m (λ j. total n (λ k. f j k)) ≡ total n (λ k. total m (λ j. f j k))
total-total zero n f = sym (total-zero n)
total-total (suc m) n f = omega (arith, total-total m n f, total-plus n (λ k. total m (λ j. f j k)) (f m))
