-- The rejects of the units so far.
use Rattle.std.proofs.Common.{◌≡◌, take}
use Rattle.std.specs.Prelude.{sum_by}
use Rattle.ff_node.specs.Sends.{counted}
use Rattle.ff_steps.proofs.rejects.rejected.Given as goal

abbrev pub invariant-loop-u : goal.invariant-loop-u
invariant-loop-u g l = l.count ≡ counted (sum_by g.U.Unit.does.rejects (take l.u-index l.units))
