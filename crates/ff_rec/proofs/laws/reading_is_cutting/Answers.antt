use Rattle.ff_rec.proofs.WholeTexts.{reading-law}
use Rattle.ff_rec.proofs.laws.reading_is_cutting.Goals as goal

pub returns : goal.returns
returns c = reading-law
