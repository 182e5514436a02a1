-- The pieces of an operation are apart.
use Rattle.ff_text.proofs.PrintedOperations.{printed_op_is_spelling, printed_op_is_read}
use Rattle.ff_text.proofs.laws.printed_operations_are_read.Goals as goal

pub returns-clause-tokens : goal.returns-clause-tokens
returns-clause-tokens c = printed_op_is_spelling c.printed_pieces_are_cut_into_them.ensures

pub returns-clause-read : goal.returns-clause-read
returns-clause-read c = printed_op_is_read c.printed_pieces_are_cut_into_them.ensures
