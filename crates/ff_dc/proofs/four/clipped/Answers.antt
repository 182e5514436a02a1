use Rattle.std.proofs.Common.{arith}
use Rattle.std.proofs.lemmas.Int.{ints, clamps}
use Rattle.ff_dc.specs.Fours.{clip}
use Rattle.ff_dc.proofs.four.clipped.Goals as goal

pub returns-clause-value : goal.returns-clause-value
unfolding clip
returns-clause-value c = omega (arith, ints, clamps)
