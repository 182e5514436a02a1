-- So few digits are a small number.
use Rattle.std.proofs.Common.{◌≤◌, rules, arith}
use Rattle.std.proofs.Math.Nat.{pow-le-pow_right}
use Rattle.ff_rec.proofs.number.read_digits.Goals as goal

pub overflow_mul-n : goal.overflow_mul-n
overflow_mul-n c =
    let index : c.loop-digit.digit-index ≤ 17 = search rules in
    search (rules, pow-le-pow_right {n = 10} (omega arith) index)

pub overflow_add-n : goal.overflow_add-n
overflow_add-n c =
    let index : c.loop-digit.digit-index ≤ 17 = search rules in
    search (rules, pow-le-pow_right {n = 10} (omega arith) index)

pub returns-clause-small : goal.returns-clause-small
returns-clause-small c =
    let index : c.loop-digit.digit-index ≤ 18 = search rules in
    omega (arith, c.loop-digit.invariant.small, pow-le-pow_right {n = 10} (omega arith) index)
