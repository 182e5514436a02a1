-- The rules of the stored functions: what each makes of a number.
use Rattle.std.specs.Prelude.{ℕ, zero, suc, ◌+◌, ◌*◌, ◌/◌, ◌%◌, ◌^◌, ◌≤ℤ◌, max, nat_le, nat_lt, ◌==◌, ◌&&◌, Bool, false, if◌then◌else◌, Option, None, Some, ℤ, pos, negsuc, unsigned_abs, FitsSigned, sum}
use Rattle.std.specs.Int.{w64, int_bit_xor}
use Rattle.std.specs.Int.Digits.{digits_of}
use Rattle.ff_fn.specs.declared.maps.MapRule.{MapRule}
use Rattle.ff_fn.specs.declared.maps.MapRule.TheVariants.{Digits, Collatz, Isqrt}
use Rattle.ff_fn.specs.declared.predicates.TestRule.{TestRule}
use Rattle.ff_fn.specs.declared.predicates.TestRule.TheVariants.{Square}
use Rattle.ff_fn.specs.declared.folds.FoldRule.{FoldRule}
use Rattle.ff_fn.specs.declared.folds.FoldRule.TheVariants.{Gcd, Xor}

-- the greatest number from 1 to the given one that passes a test, or 0 where none does
unfoldable pub greatest : (ℕ → Bool) → ℕ → ℕ
greatest passes zero = 0
greatest passes (suc n) = if passes (suc n) then suc n else greatest passes n

-- a number from -2^63 to 2^63 - 1; `negsuc n` is -(n + 1)
abbrev pub in_range : ℤ → Option ℤ
in_range (pos n) = if nat_lt n (2 ^ 63) then Some (pos n) else None
in_range (negsuc n) = if nat_lt n (2 ^ 63) then Some (negsuc n) else None

-- the sum of the decimal digits
abbrev pub digit_sum : ℕ → ℕ
digit_sum n = sum (digits_of 10 n)

-- the next number of the Collatz sequence
abbrev pub next_collatz : ℕ → Option ℤ
next_collatz n = if n % 2 == 0 then Some (pos (n / 2)) else in_range (pos (3 * n + 1))

-- the greatest number whose square isn't above `n`
abbrev pub root : ℕ → ℕ
root n = greatest (λ r. nat_le (r * r) n) n

-- the greatest number that divides both; 0 where both are 0
abbrev pub common_divisor : ℕ → ℕ → ℕ
common_divisor a b = greatest (λ d. (a % d == 0) && (b % d == 0)) (max a b)

-- what a map makes of a number
abbrev pub map_value : MapRule → ℤ → Option ℤ
map_value Digits x = Some (pos (digit_sum (unsigned_abs x)))
map_value Collatz (pos n) = if n == 0 then None else next_collatz n
map_value Collatz (negsuc n) = None
map_value Isqrt (pos n) = Some (pos (root n))
map_value Isqrt (negsuc n) = None

-- whether a number passes a test
abbrev pub test_value : TestRule → ℤ → Bool
test_value Square (pos n) = root n * root n == n
test_value Square (negsuc n) = false

-- the states of a fold
abbrev pub IsState : FoldRule → ℤ → Type 0
IsState Gcd state = (pos 0 ≤ℤ state) × (state ≤ℤ pos (2 ^ 63))
IsState Xor state = FitsSigned w64 state

-- the state of a fold after a number
abbrev pub fold_value : FoldRule → ℤ → ℤ → ℤ
fold_value Gcd state x = pos (common_divisor (unsigned_abs state) (unsigned_abs x))
fold_value Xor state x = int_bit_xor w64 state x
