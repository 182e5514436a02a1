-- By recursion along the text.
use Rattle.ff_text.proofs.Stops.{stops_at_its_end}
use Rattle.ff_text.proofs.laws.texts_stop_at_their_end.Goals as goal

pub returns : goal.returns
returns c = stops_at_its_end
