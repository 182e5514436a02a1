-- Piece by piece.
use Rattle.ff_text.proofs.NetPieces.{printed_nets_are_spelled}
use Rattle.ff_text.proofs.ReadAgain.{printed_nets_are_read_again}
use Rattle.ff_text.proofs.laws.printed_networks_are_spelled.Goals as goal

pub returns-clause-spelled : goal.returns-clause-spelled
returns-clause-spelled c = printed_nets_are_spelled c.printed_pieces_are_cut_into_them.ensures

pub returns-clause-read_again : goal.returns-clause-read_again
returns-clause-read_again c = printed_nets_are_read_again c.printed_pieces_are_cut_into_them.ensures
