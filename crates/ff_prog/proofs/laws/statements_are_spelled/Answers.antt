-- Each way by cases of the words.
use Rattle.ff_prog.proofs.Spells.{spells}
use Rattle.ff_prog.proofs.laws.statements_are_spelled.Goals as goal

pub returns : goal.returns
returns c = spells
