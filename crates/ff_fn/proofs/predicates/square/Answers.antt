use Rattle.std.proofs.Common.{arith, rules}
use Rattle.std.proofs.lemmas.Int.{ints}
use Rattle.ff_fn.proofs.Roots.{square_value, square_plainly}
use Rattle.ff_fn.proofs.predicates.square.Goals as goal

pub returns-clause-value : goal.returns-clause-value
returns-clause-value c =
    square_value c.args.x c.unsigned_abs-n.result c.isqrt-root.result (omega (arith, ints)) (search rules) c.isqrt-root.ensures.square_le c.isqrt-root.ensures.next_square_gt

pub returns-clause-plainly : goal.returns-clause-plainly
returns-clause-plainly c =
    square_plainly c.args.x c.unsigned_abs-n.result c.isqrt-root.result (omega (arith, ints)) (search rules) c.isqrt-root.ensures.square_le c.isqrt-root.ensures.next_square_gt
