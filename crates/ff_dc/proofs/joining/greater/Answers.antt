use Rattle.std.proofs.Common.{◌+ℤ◌, arith}
use Rattle.std.proofs.lemmas.Int.{ints, clamps}
use Rattle.std.specs.Int.{int_max}
use Rattle.ff_dc.proofs.Ends.{clip-bits}
use Rattle.ff_dc.proofs.joining.greater.Goals as goal

pub returns-clause-value : goal.returns-clause-value
returns-clause-value c =
    clip-bits c.clipped.result _ (int_max c.args.x (c.args.a +ℤ c.args.b)) c.clipped.ensures.value c.clipped.ensures.within (omega (arith, ints, clamps))
