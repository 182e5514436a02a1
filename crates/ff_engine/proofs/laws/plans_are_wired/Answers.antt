-- By what its ends weigh together.
use Rattle.ff_net.specs.Tree.{tree_of}
use Rattle.ff_engine.proofs.Wired.{IsWired-plan}
use Rattle.ff_engine.proofs.laws.plans_are_wired.Goals as goal

pub returns : goal.returns
returns g c = IsWired-plan g.N.Node.does (tree_of c.args.checked.now.net) c.checked_networks_are_good.ensures.good
