use Rattle.ff_rec.proofs.FirstLimits.{limit-law}
use Rattle.ff_rec.proofs.laws.a_text_within_its_limits_passes_none.Goals as goal

pub returns : goal.returns
returns c = limit-law
