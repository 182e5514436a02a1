use Rattle.ff_ops.proofs.Extremes.{rejects_numberless}
use Rattle.ff_ops.proofs.laws.folds_of_numbers_reject_the_rest.Goals as goal

pub returns : goal.returns
returns c = rejects_numberless
