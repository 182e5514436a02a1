-- How great the numbers of Fibonacci are.
use Rattle.std.proofs.Common.{◌≡◌, ℕ, suc, zero, ◌+◌, ◌^◌, ◌≤◌, refl, ap, arith, lit<}
use Rattle.std.proofs.Math.Nat.{pow-suc, pow-le-pow_right}
use Rattle.ff_dc.specs.Values.{fib, fibs}

fibs-below : (n : ℕ) → ((fibs n).0 ≤ 2 ^ n) × ((fibs n).1 ≤ 2 ^ n)
fibs-below zero = (omega arith, omega arith)
fibs-below (suc n) = let r = fibs-below n in (omega (arith, pow-suc 2 n, r.0, r.1), omega (arith, pow-suc 2 n, r.0, r.1))

pub fib-small : (n : ℕ) → n ≤ 90 → ((fibs n).0 ≤ 2 ^ 90) × ((fibs n).1 ≤ 2 ^ 90)
fib-small n h =
    let r = fibs-below n in
    let p : 2 ^ n ≤ 2 ^ 90 = pow-le-pow_right (lit< tt) h in
    (omega (arith, r.0, p), omega (arith, r.1, p))

pub fib-two : (n : ℕ) → fib (suc (suc n)) ≡ fib (suc n) + fib n
fib-two n = refl

pub fibs-more : (k : ℕ) → ((fibs (k + 1)).0 ≡ (fibs k).1) × ((fibs (k + 1)).1 ≡ (fibs k).1 + (fibs k).0)
fibs-more k = let e : k + 1 ≡ suc k = omega arith in (ap (λ (m : ℕ). (fibs m).0) e, ap (λ (m : ℕ). (fibs m).1) e)
