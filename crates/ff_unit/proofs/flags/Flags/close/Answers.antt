use Rattle.std.proofs.Common.{arith, false}
use Rattle.ff_unit.proofs.FlagViews.{take-set}
use Rattle.ff_unit.proofs.flags.Flags.close.Goals as goal

pub returns : goal.returns
returns c = take-set c.self.inside.flags c.self.inside.count (omega arith) false c.args.self.now c.args.k c.self.view_is c.requires
