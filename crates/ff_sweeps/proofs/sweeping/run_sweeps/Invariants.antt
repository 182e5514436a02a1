-- So many sweeps were made, each of which raised something that stays below the budget.
use Rattle.std.proofs.Common.{◌≡◌, ◌-◌}
use Rattle.ff_net.specs.Tree.{tree_of}
use Rattle.ff_plan.specs.Traffic.{budget}
use Rattle.ff_steps.specs.Core.{taken_rejects}
use Rattle.ff_steps.specs.NetUnits.{net_does}
use Rattle.ff_sweeps.proofs.SoFar.{SoFar, raised}
use Rattle.ff_sweeps.proofs.sweeping.run_sweeps.Given as goal

abbrev pub invariant-loop-made : goal.invariant-loop-made
invariant-loop-made g l =
    SoFar g.N.Node.does l.fn.core.limit (tree_of l.fn.core.checked.net) l.made l.fn.core.core l.core.core
    × (l.core.checked ≡ l.fn.core.checked) × (l.core.limit ≡ l.fn.core.limit) × (l.core.keep ≡ l.fn.core.keep)
    × (l.core.core.input ≡ l.fn.core.core.input)
    × (taken_rejects (net_does g.N.Node.does) l.core.core ≡ taken_rejects (net_does g.N.Node.does) l.fn.core.core)

abbrev pub decreases-loop-made : goal.decreases-loop-made
decreases-loop-made g l =
    let t = tree_of l.fn.core.checked.net in
    budget g.N.Node.does l.fn.core.limit t l.fn.core.core.input - raised g.N.Node.does t l.core.core
