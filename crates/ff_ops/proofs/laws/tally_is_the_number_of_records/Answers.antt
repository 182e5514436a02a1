use Rattle.ff_ops.proofs.FoldLists.{tally_is_length}
use Rattle.ff_ops.proofs.laws.tally_is_the_number_of_records.Goals as goal

pub returns : goal.returns
returns c = tally_is_length
