-- By recursion along the network.
use Rattle.ff_text.proofs.Depths.{room_is_depth}
use Rattle.ff_text.proofs.laws.forms_round_one_another_are_the_depth.Goals as goal

pub returns : goal.returns
returns c = room_is_depth
