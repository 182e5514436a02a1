use Rattle.std.proofs.Common.{arith, sym}
use Rattle.ff_unit.proofs.FlagViews.{take-some, take-none}
use Rattle.ff_unit.proofs.flags.Flags.any.Goals as goal

pub returns-then-self-k : goal.returns-then-self-k
returns-then-self-k c =
    sym (take-some c.self.inside.flags c.self.inside.count (omega arith) c.args.self.now c.loop-k.k c.self.view_is c.loop-k-test.true c.if-self-k.true)

pub returns : goal.returns
returns c =
    sym (take-none c.self.inside.flags c.self.inside.count (omega arith) c.args.self.now c.self.view_is
    (λ k below. c.loop-k.invariant k (omega (arith, below))))
