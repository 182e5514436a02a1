use Rattle.ff_net.specs.Tree.{tree_of}
use Rattle.ff_plan.proofs.JoinedUnits.{is_joined}
use Rattle.ff_plan.proofs.wiring.each_edge_has_two_ends.Goals as goal

pub returns : goal.returns
returns g c = is_joined g.N.Node.does (tree_of c.args.checked.now.net) c.checked_networks_are_good.ensures.good
