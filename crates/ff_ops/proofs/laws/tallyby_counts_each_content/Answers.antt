use Rattle.ff_ops.proofs.KeyedTotals.{tallyby_is_counts, tallyby_rejects_lacking}
use Rattle.ff_ops.proofs.laws.tallyby_counts_each_content.Goals as goal

pub returns-clause-sends : goal.returns-clause-sends
returns-clause-sends c = tallyby_is_counts

pub returns-clause-rejects : goal.returns-clause-rejects
returns-clause-rejects c = tallyby_rejects_lacking
