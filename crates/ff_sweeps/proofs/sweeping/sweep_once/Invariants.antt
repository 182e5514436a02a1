-- The parties below this one stepped.
use Rattle.std.proofs.Common.{◌≡◌}
use Rattle.ff_net.specs.Tree.{tree_of}
use Rattle.ff_plan.specs.Rows.{range}
use Rattle.ff_steps.specs.Core.{all_ended, taken_rejects}
use Rattle.ff_steps.specs.Events.{Follows}
use Rattle.ff_steps.specs.NetCores.{IsGood}
use Rattle.ff_steps.specs.NetUnits.{net_does}
use Rattle.ff_sweeps.proofs.sweeping.sweep_once.Given as goal

abbrev pub invariant-loop-p : goal.invariant-loop-p
invariant-loop-p g l =
    Follows (net_does g.N.Node.does) (IsGood g.N.Node.does l.fn.core.limit (tree_of l.fn.core.checked.net)) (range 0 l.p) l.fn.core.core l.core.core
    × (l.core.checked ≡ l.fn.core.checked) × (l.core.limit ≡ l.fn.core.limit) × (l.core.keep ≡ l.fn.core.keep)
    × (l.ended ≡ all_ended (net_does g.N.Node.does) l.core.core)
    × (l.core.core.input ≡ l.fn.core.core.input)
    × (taken_rejects (net_does g.N.Node.does) l.core.core ≡ taken_rejects (net_does g.N.Node.does) l.fn.core.core)
