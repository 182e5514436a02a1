use Rattle.ff_net.specs.LevelLaws.{rounds_end}
use Rattle.ff_net.proofs.laws.rounds_end.Goals as goal

pub returns : goal.returns
returns c = rounds_end
