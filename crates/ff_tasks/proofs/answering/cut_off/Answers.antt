-- Nothing more was taken.
use Rattle.ff_ring.specs.Ends.{got_of}
use Rattle.ff_tasks.proofs.Firsts.{Begins-refl}
use Rattle.ff_tasks.proofs.answering.cut_off.Goals as goal

pub returns-in_default-clause-got : goal.returns-in_default-clause-got
returns-in_default-clause-got g c = Begins-refl (got_of c.args.tasks.now)
