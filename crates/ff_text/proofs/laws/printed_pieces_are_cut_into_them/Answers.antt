-- Numbers are read as they were printed, and so is the rest.
use Rattle.ff_text.proofs.Apart.{printed_is_cut}
use Rattle.ff_text.proofs.laws.printed_pieces_are_cut_into_them.Goals as goal

pub returns : goal.returns
returns c = printed_is_cut c.printed_numbers_are_read.ensures
