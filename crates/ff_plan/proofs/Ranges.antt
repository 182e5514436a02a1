-- What the numbers in ranges, rows and columns weigh.
use Rattle.std.proofs.Common.{◌≡◌, ℕ, zero, suc, ◌+◌, ◌*◌, refl, ap, arith}
use Rattle.ff_rec.specs.Weights.{weigh}
use Rattle.ff_plan.specs.Rows.{range, stride}

-- a range that is cut in two
pub range-cut : (h : ℕ → ℕ) (e f a b n : ℕ) → n ≡ a + b → f ≡ e + a → weigh h (range e n) ≡ weigh h (range e a) + weigh h (range f b)
range-cut h e f zero b n many from =
    let count : n ≡ b = omega arith in
    let first : e ≡ f = omega arith in
    omega (arith, ap (λ k. weigh h (range e k)) count, ap (λ g. weigh h (range g b)) first)
range-cut h e f (suc a) b n many from =
    let count : n ≡ suc (a + b) = omega arith in
    let first : f ≡ suc e + a = omega arith in
    omega (arith, ap (λ k. weigh h (range e k)) count, range-cut h (suc e) f a b (a + b) refl first)

-- `k` columns of `n` rows, each row `m` behind the one before it
abbrev pub columns : (ℕ → ℕ) → ℕ → ℕ → ℕ → ℕ → ℕ
columns h n m c zero = 0
columns h n m c (suc k) = weigh h (stride m c n) + columns h n m (suc c) k

columns-none : (h : ℕ → ℕ) (m c k : ℕ) → columns h zero m c k ≡ 0
columns-none h m c zero = refl
columns-none h m c (suc k) = omega (arith, columns-none h m (suc c) k)

-- the first row of them, and the others
columns-row : (h : ℕ → ℕ) (n m c k : ℕ) → columns h (suc n) m c k ≡ weigh h (range c k) + columns h n m (c + m) k
columns-row h n m c zero = refl
columns-row h n m c (suc k) =
    let next : suc c + m ≡ suc (c + m) = omega arith in
    omega (arith, columns-row h n m (suc c) k, ap (λ d. columns h n m d k) next)

-- all columns are all rows
pub columns-all : (h : ℕ → ℕ) (n m c : ℕ) → columns h n m c m ≡ weigh h (range c (n * m))
columns-all h zero m c =
    let none : zero * m ≡ zero = omega arith in
    omega (arith, columns-none h m c m, ap (λ k. weigh h (range c k)) none)
columns-all h (suc n) m c =
    let many : suc n * m ≡ m + n * m = omega arith in
    omega (arith, columns-row h n m c m, columns-all h n m (c + m), range-cut h c (c + m) m (n * m) (suc n * m) many refl)

-- the inner edges of a farm, part by part
pub farm-cut : (h : ℕ → ℕ) (e n p w : ℕ) → weigh h (range e (n * w + 2 * n + p))
    ≡ weigh h (range e n) + (weigh h (range (e + n) n) + (weigh h (range (e + 2 * n) p) + weigh h (range (e + 2 * n + p) (n * w))))
farm-cut h e n p w =
    let all : n * w + 2 * n + p ≡ n + (n + (p + n * w)) = omega arith in
    let answers : e + 2 * n ≡ e + n + n = omega arith in
    omega (
      arith,
      range-cut h e (e + n) n (n + (p + n * w)) (n * w + 2 * n + p) all refl,
      range-cut h (e + n) (e + 2 * n) n (p + n * w) (n + (p + n * w)) refl answers,
      range-cut h (e + 2 * n) (e + 2 * n + p) p (n * w) (p + n * w) refl refl,
    )

pub plain-cut : (h : ℕ → ℕ) (e n w : ℕ) → weigh h (range e (n * w + 2 * n)) ≡ weigh h (range e n) + (weigh h (range (e + n) n) + weigh h (range (e + 2 * n) (n * w)))
plain-cut h e n w =
    let all : n * w + 2 * n ≡ n + (n + n * w) = omega arith in
    let answers : e + 2 * n ≡ e + n + n = omega arith in
    omega (arith, range-cut h e (e + n) n (n + n * w) (n * w + 2 * n) all refl, range-cut h (e + n) (e + 2 * n) n (n * w) (n + n * w) refl answers)

-- those of an all-to-all
pub sets-cut : (h : ℕ → ℕ) (e n m : ℕ) → weigh h (range e (2 * n + n * m + 2 * m))
    ≡ weigh h (range e n) + (weigh h (range (e + n) n) + (weigh h (range (e + 2 * n) (n * m))
    + (weigh h (range (e + 2 * n + n * m) m) + weigh h (range (e + 2 * n + n * m + m) m))))
sets-cut h e n m =
    let all : 2 * n + n * m + 2 * m ≡ n + (n + (n * m + (m + m))) = omega arith in
    let rows : e + 2 * n ≡ e + n + n = omega arith in
    omega (
      arith,
      range-cut h e (e + n) n (n + (n * m + (m + m))) (2 * n + n * m + 2 * m) all refl,
      range-cut h (e + n) (e + 2 * n) n (n * m + (m + m)) (n + (n * m + (m + m))) refl rows,
      range-cut h (e + 2 * n) (e + 2 * n + n * m) (n * m) (m + m) (n * m + (m + m)) refl refl,
      range-cut h (e + 2 * n + n * m) (e + 2 * n + n * m + m) m m (m + m) refl refl,
    )
