use Rattle.std.proofs.Common.{arith, ap, length}
use Rattle.ff_unit.proofs.takes.take_between.Goals as goal

pub try_take-requires : goal.try_take-requires
try_take-requires g c = omega (arith, ap length c.loop-k.invariant.gots)
