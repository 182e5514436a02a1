use Rattle.ff_rec.proofs.Rising.{contents-law}
use Rattle.ff_rec.proofs.laws.contents_rise_and_are_what_occurs.Goals as goal

pub returns : goal.returns
returns c = contents-law
