use Rattle.ff_rec.proofs.Printing.{number-printed}
use Rattle.ff_rec.proofs.laws.printed_numbers_are_read.Goals as goal

pub returns : goal.returns
returns c = number-printed
