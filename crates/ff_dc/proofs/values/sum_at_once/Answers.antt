use Rattle.std.proofs.Common.{arith}
use Rattle.std.proofs.lemmas.Int.{ints, to_z-of_z}
use Rattle.ff_dc.proofs.PushLaws.{total-more}
use Rattle.ff_dc.proofs.values.sum_at_once.Goals as goal

pub loop-x-preserved : goal.loop-x-preserved
loop-x-preserved c = (grind (arith, ints, to_z-of_z, total-more), omega (arith, ints), omega (arith, ints))
