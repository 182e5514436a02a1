-- By recursion along the network.
use Rattle.ff_text.proofs.Unnamed.{spelled_without_names}
use Rattle.ff_text.proofs.laws.networks_without_names_are_spelled_one_way.Goals as goal

pub returns : goal.returns
returns c = spelled_without_names
