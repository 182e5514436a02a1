use Rattle.ff_ops.proofs.FoldLists.{total_is_difference}
use Rattle.ff_ops.proofs.laws.total_is_the_difference_of_two_sums.Goals as goal

pub returns : goal.returns
returns c = total_is_difference
