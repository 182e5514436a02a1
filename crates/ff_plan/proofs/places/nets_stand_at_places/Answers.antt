use Rattle.ff_net.specs.Tree.{tree_of}
use Rattle.ff_plan.proofs.Standing.{nets_at_places}
use Rattle.ff_plan.proofs.places.nets_stand_at_places.Goals as goal

pub returns : goal.returns
returns g c = nets_at_places (tree_of c.args.checked.now.net)
