-- Combs of these nodes stand for the network too.
use Rattle.ff_net.specs.Tree.{tree_of}
use Rattle.ff_mean.proofs.Groups.{IfOk-groups}
use Rattle.ff_single.proofs.pipeline.grouped.Goals as goal

pub returns : goal.returns
returns g c =
    IfOk-groups g.N.Node.does (tree_of c.args.checked.now.net) g.M.Node.does c.group.result (λ groups. groups.items) c.comb_is_composition.ensures.line c.args.nodes.items
    c.group.ensures c.requires
