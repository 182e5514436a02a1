-- Nothing is done.
use Rattle.ff_stream.proofs.Goings.{Goes-refl}
use Rattle.ff_single.proofs.whole.WholeIntake.pause.Goals as goal

pub returns-clause-ok : goal.returns-clause-ok
returns-clause-ok g c = Goes-refl _ c.args.self.now _
