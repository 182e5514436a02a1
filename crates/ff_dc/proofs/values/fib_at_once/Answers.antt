use Rattle.std.proofs.Common.{◌≤◌, arith}
use Rattle.std.proofs.lemmas.Int.{ints}
use Rattle.ff_dc.proofs.Fibs.{fib-small, fibs-more}
use Rattle.ff_dc.proofs.values.fib_at_once.Goals as goal

pub overflow_add-sum : goal.overflow_add-sum
overflow_add-sum c =
    let few : c.loop-k.k ≤ 90 = omega arith in
    omega (arith, ints, (fib-small c.loop-k.k few).0, (fib-small c.loop-k.k few).1, c.loop-k.invariant.0, c.loop-k.invariant.1)

pub loop-k-preserved : goal.loop-k-preserved
loop-k-preserved c =
    let few : c.loop-k.k ≤ 90 = omega arith in (
      omega (arith, ints, (fibs-more c.loop-k.k).0, c.loop-k.invariant.1),
      omega (arith, ints, (fib-small c.loop-k.k few).0, (fib-small c.loop-k.k few).1, (fibs-more c.loop-k.k).1, c.loop-k.invariant.0, c.loop-k.invariant.1),
    )
