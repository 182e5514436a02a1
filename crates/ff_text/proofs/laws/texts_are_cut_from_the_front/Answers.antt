-- The lexeme at the front, and what is cut behind it.
use Rattle.ff_text.proofs.Stops.{cuts_front_first}
use Rattle.ff_text.proofs.laws.texts_are_cut_from_the_front.Goals as goal

pub returns : goal.returns
returns c = cuts_front_first
