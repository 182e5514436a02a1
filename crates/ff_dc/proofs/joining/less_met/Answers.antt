use Rattle.std.proofs.Common.{◌+ℤ◌, ◌-ℤ◌, arith}
use Rattle.std.proofs.lemmas.Int.{ints, clamps}
use Rattle.std.specs.Int.{int_min}
use Rattle.ff_dc.proofs.Ends.{clip-bits}
use Rattle.ff_dc.proofs.joining.less_met.Goals as goal

pub overflow_sub-a : goal.overflow_sub-a
overflow_sub-a c = omega (arith, ints, clamps)

pub returns-clause-value : goal.returns-clause-value
returns-clause-value c =
    clip-bits c.clipped.result _ (c.args.a +ℤ c.args.b -ℤ int_min c.args.opens c.args.closes) c.clipped.ensures.value c.clipped.ensures.within (omega (arith, ints, clamps))
