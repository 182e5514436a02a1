-- The square root, rounded down, and squares.
use Rattle.std.proofs.Common.{◌≡◌, ℕ, zero, suc, ◌+◌, ◌*◌, ◌<◌, ◌≤◌, Bool, false, refl, arith, sym, ◌∙◌, ap, subst}
use Rattle.std.specs.Prelude.{nat_le}
use Rattle.std.proofs.lemmas.Nat.{mul-le}
use Rattle.std.specs.Prelude.{ℤ, pos, negsuc, ◌*ℤ◌, ◌≤ℤ◌, unsigned_abs, IsTrue, ◌↔◌, nat_eq, Some}
use Rattle.std.specs.Int.{IsIsqrt}
use Rattle.std.proofs.lemmas.Int.{ints}
use Rattle.ff_fn.specs.declared.maps.MapRule.TheVariants.{Isqrt}
use Rattle.ff_fn.specs.declared.predicates.TestRule.TheVariants.{Square}
use Rattle.ff_fn.specs.Rules.{root, map_value, test_value}
use Rattle.ff_fn.proofs.Greatest.{greatest_is, greatest_none}

too_big : (n r d : ℕ) → n < (r + 1) * (r + 1) → r < d → nat_le (d * d) n ≡ false
too_big n r d above past =
    let more : (r + 1) * (r + 1) ≤ d * d = mul-le (r + 1) (r + 1) d d (omega arith) (omega arith) in
    grind arith

at_most_square : (r : ℕ) → r ≤ r * r
at_most_square zero = omega arith
at_most_square (suc r) = let le : 1 * suc r ≤ suc r * suc r = mul-le 1 (suc r) (suc r) (suc r) (omega arith) (omega arith) in omega arith

pub root_is : (n r : ℕ) → r * r ≤ n → n < (r + 1) * (r + 1) → root n ≡ r
root_is n zero low high = greatest_none _ n (λ d p q. too_big n 0 d high p)
root_is n (suc r) low high =
    let le : suc r ≤ suc r * suc r = at_most_square (suc r) in
    greatest_is _ n (suc r) (omega arith) (omega arith) (grind arith) (λ d p q. too_big n (suc r) d high p)

-- what std says of a square root is what the rule says
pub isqrt_value : (x r : ℤ) → pos 0 ≤ℤ x → IsIsqrt x r → Some r ≡ map_value Isqrt x
isqrt_value (pos n) r up is = ap (λ (z : ℤ). Some z) (is.1 ∙ ap pos (sym (root_is n is.0 is.2 is.3)))
isqrt_value (negsuc n) r up is = absurd (omega (arith, ints))

-- a root whose square is the number
pub square_value : (x : ℤ) (n r : ℕ) → pos 0 ≤ℤ x → n ≡ unsigned_abs x → r * r ≤ n → n < (r + 1) * (r + 1) → nat_eq (r * r) n ≡ test_value Square x
square_value (pos m) n r up e low high =
    let is : root n ≡ r = root_is n r low high in
    subst (λ (k : ℕ). nat_eq (r * r) n ≡ nat_eq (root k * root k) k) e (rw is refl)
square_value (negsuc m) n r up e low high = absurd (omega (arith, ints))

-- a number is a square where some whole number has it for its square
root_of_square : (n m : ℕ) → m * m ≡ n → root n * root n ≡ n
root_of_square n m e =
    let low : m * m ≤ n = omega arith in
    let high : n < (m + 1) * (m + 1) = grind arith in
    rw (root_is n m low high) e

square_back : (n : ℕ) (r : ℤ) → r *ℤ r ≡ pos n → IsTrue (nat_eq (root n * root n) n)
square_back n (pos m) e = let f : m * m ≡ n = grind arith in let g = root_of_square n m f in grind arith
square_back n (negsuc m) e = let f : suc m * suc m ≡ n = grind arith in let g = root_of_square n (suc m) f in grind arith

no_negative : (n : ℕ) (r : ℤ) → r *ℤ r ≡ negsuc n → ⊥
no_negative n (pos m) e = cc
no_negative n (negsuc m) e = cc

pub is_square : (x : ℤ) → (IsTrue (test_value Square x)) ↔ ((r : ℤ) × (r *ℤ r ≡ x))
is_square (pos n) = ((λ t. (pos (root n), ap pos (grind arith))), (λ (r, e). square_back n r e))
is_square (negsuc n) = ((λ t. absurd (grind arith)), (λ (r, e). absurd (no_negative n r e)))

pub square_plainly : (x : ℤ) (n r : ℕ) → pos 0 ≤ℤ x → n ≡ unsigned_abs x → r * r ≤ n → n < (r + 1) * (r + 1) → (IsTrue (nat_eq (r * r) n)) ↔ ((s : ℤ) × (s *ℤ s ≡ x))
square_plainly x n r up e low high = subst (λ (b : Bool). IsTrue b ↔ ((s : ℤ) × (s *ℤ s ≡ x))) (sym (square_value x n r up e low high)) (is_square x)
