-- What holds of the folds: a step leads from state to state, and two steps commute.
use Rattle.std.proofs.Common.{ℕ, ◌^◌, ◌≤◌, arith, ap, ℤ, pos, max}
use Rattle.std.specs.Prelude.{FitsSigned, unsigned_abs, ◌≤ℤ◌}
use Rattle.std.specs.Int.{w64}
use Rattle.std.proofs.lemmas.Int.{ints}
use Rattle.ff_fn.specs.declared.folds.FoldRule.{FoldRule}
use Rattle.ff_fn.specs.declared.folds.FoldRule.TheVariants.{Gcd, Xor}
use Rattle.ff_fn.specs.Rules.{IsState, fold_value, common_divisor}
use Rattle.ff_fn.specs.Laws.{StepsCommute}
use Rattle.ff_fn.proofs.Greatest.{greatest-le}
use Rattle.ff_fn.proofs.Divisors.{common_divisor-swap}
use Rattle.ff_fn.proofs.Bits.{xor-swap, xor-fits}

abs_le : (z : ℤ) → pos 0 ≤ℤ z → z ≤ℤ pos (2 ^ 63) → unsigned_abs z ≤ 2 ^ 63
abs_le z p q = grind (arith, ints)

abs_fits : (z : ℤ) → FitsSigned w64 z → unsigned_abs z ≤ 2 ^ 63
abs_fits z p = grind (arith, ints)

pub fold_stays : (rule : FoldRule) (state x : ℤ) → IsState rule state → FitsSigned w64 x → IsState rule (fold_value rule state x)
fold_stays Gcd state x is fits =
    let m : unsigned_abs state ≤ 2 ^ 63 = abs_le state is.0 is.1 in
    let n : unsigned_abs x ≤ 2 ^ 63 = abs_fits x fits in
    let le : common_divisor (unsigned_abs state) (unsigned_abs x) ≤ max (unsigned_abs state) (unsigned_abs x) = greatest-le _ _ in
    let bound : common_divisor (unsigned_abs state) (unsigned_abs x) ≤ 2 ^ 63 = omega arith in
    (omega (arith, ints), omega (arith, ints))
fold_stays Xor state x is fits = xor-fits state x is fits

pub steps_commute : StepsCommute
steps_commute Gcd state x y is p q = ap (λ (n : ℕ). pos n) (common_divisor-swap (unsigned_abs state) (unsigned_abs x) (unsigned_abs y))
steps_commute Xor state x y is p q = xor-swap state x y is p q
