use Rattle.ff_ops.proofs.Extremes.{max_is_greatest}
use Rattle.ff_ops.proofs.laws.max_is_the_greatest_number.Goals as goal

pub returns : goal.returns
returns c = max_is_greatest
