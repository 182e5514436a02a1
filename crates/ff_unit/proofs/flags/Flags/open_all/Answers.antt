use Rattle.std.proofs.Common.{arith, true}
use Rattle.ff_unit.proofs.FlagViews.{take-all}
use Rattle.ff_unit.proofs.flags.Flags.open_all.Goals as goal

pub returns : goal.returns
returns c = take-all c.self.inside.flags c.self.inside.count (omega arith) true c.args.self.now c.self.view_is c.self.invariant
