-- By recursion along both networks.
use Rattle.ff_text.proofs.OneNet.{spelling_is_of_one_net}
use Rattle.ff_text.proofs.laws.networks_spelled_alike_are_the_same.Goals as goal

pub returns : goal.returns
returns c = spelling_is_of_one_net
