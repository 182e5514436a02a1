use Rattle.ff_ops.proofs.Extremes.{min_is_least}
use Rattle.ff_ops.proofs.laws.min_is_the_least_number.Goals as goal

pub returns : goal.returns
returns c = min_is_least
