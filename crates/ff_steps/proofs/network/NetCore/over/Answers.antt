-- Where no wrap stands in the network, no unit is over.
use Rattle.std.proofs.Common.{ap, ◌∙◌}
use Rattle.ff_net.specs.Tree.{tree_of}
use Rattle.ff_steps.specs.NetUnits.{any_over}
use Rattle.ff_steps.proofs.NeverOver.{never_over}
use Rattle.ff_steps.proofs.network.NetCore.over.Goals as goal

pub returns-clause-never : goal.returns-clause-never
returns-clause-never g c = λ free.
    let t = tree_of c.args.self.now.checked.net in
    c.any_over.ensures ∙ ap any_over c.units.ensures.units
    ∙ never_over g.N.Node.does c.args.self.now.limit c.args.self.now.keep t c.args.self.now.core c.args.self.now.made c.units.ensures.sound free
