-- What was taken out, with what is still held, is what was held.
use Rattle.std.proofs.Common.{◌≡◌, ◌++◌, length}
use Rattle.ff_steps.specs.Core.{held_rejects}
use Rattle.ff_steps.specs.NetUnits.{net_does}
use Rattle.ff_sweeps.proofs.rejects.take_rejects.Given as goal

abbrev pub invariant-loop-r : goal.invariant-loop-r
invariant-loop-r g l =
    (l.kept ++ held_rejects (net_does g.N.Node.does) l.core.core ≡ held_rejects (net_does g.N.Node.does) l.fn.core.core)
    × (l.core.core.drainer ≡ l.fn.core.core.drainer)

abbrev pub decreases-loop-r : goal.decreases-loop-r
decreases-loop-r g l = length (held_rejects (net_does g.N.Node.does) l.core.core)
