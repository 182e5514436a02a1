-- One message more.
use Rattle.ff_tasks.proofs.Ends.{Outlives-refl, Outlives-took}
use Rattle.ff_tasks.proofs.seat.Seat.drop_answers.Goals as goal

pub loop-init : goal.loop-init
loop-init g c = Outlives-refl c.args.self.now

pub loop-preserved : goal.loop-preserved
loop-preserved g c = Outlives-took c.args.self.now c.loop.self c.take.result c.take.new.self c.loop.invariant c.take.ensures
