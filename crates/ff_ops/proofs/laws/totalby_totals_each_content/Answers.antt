use Rattle.ff_ops.proofs.KeyedTotals.{totalby_is_totals, totalby_rejects_lacking}
use Rattle.ff_ops.proofs.laws.totalby_totals_each_content.Goals as goal

pub returns-clause-sends : goal.returns-clause-sends
returns-clause-sends c = totalby_is_totals

pub returns-clause-rejects : goal.returns-clause-rejects
returns-clause-rejects c = totalby_rejects_lacking
