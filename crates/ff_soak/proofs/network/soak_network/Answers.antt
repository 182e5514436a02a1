use Rattle.std.proofs.Common.{ap, ◌∙◌}
use Rattle.ff_net.specs.Rules.{first_fault}
use Rattle.ff_net.specs.declared.net.Version.TheVariants.{Two}
use Rattle.ff_ops.specs.Operation.{op_node}
use Rattle.ff_soak.proofs.Nets.{first_fault-soak_net}
use Rattle.ff_soak.proofs.network.soak_network.Goals as goal

pub unreachable-requires : goal.unreachable-requires
unreachable-requires c =
    let none = c.in-Err.ensures.fault ∙ ap (first_fault op_node Two) c.in_ok-net.ensures ∙ first_fault-soak_net c.args.workers c.requires.some c.requires.few in
    absurd (cc)
