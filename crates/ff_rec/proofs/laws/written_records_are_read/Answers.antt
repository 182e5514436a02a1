use Rattle.ff_rec.proofs.Written.{records-text}
use Rattle.ff_rec.proofs.laws.written_records_are_read.Goals as goal

pub returns : goal.returns
returns c = records-text
