-- By recursion along the statements.
use Rattle.ff_mdf.proofs.Versions.{after-version}
use Rattle.ff_mdf.proofs.laws.each_operand_has_its_latest_writers_value.Goals as goal

pub returns : goal.returns
returns c = after-version
