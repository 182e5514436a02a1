-- Nothing was written, or what was begins an answer as it did before.
use Rattle.ff_single.proofs.Wholes.{IsOpen-nothing}
use Rattle.ff_single.proofs.whole.WholeWork.give_up.Goals as goal

pub returns-clause-stood : goal.returns-clause-stood
returns-clause-stood g c = λ j xs front at. IsOpen-nothing j xs front at.nothing

pub returns-clause-broke : goal.returns-clause-broke
returns-clause-broke g c = λ j halt xs front opened. opened
