use Rattle.ff_rec.proofs.Counts.{Same-counts}
use Rattle.ff_rec.proofs.laws.same_is_each_record_as_often.Goals as goal

pub returns : goal.returns
returns c = Same-counts
