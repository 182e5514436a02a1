-- What went over the rings is what the master did.
use Rattle.ff_tasks.specs.Seats.{Stay}
use Rattle.ff_tasks.specs.Serving.{IsServed, Serves}
use Rattle.ff_tasks.proofs.serving.give_all.Given as goal

abbrev pub invariant-loop-given : goal.invariant-loop-given
invariant-loop-given g l = record {
  serves : Serves g.S.Scheduler.does l.initial.master l.initial.seats.items l.master l.seats.items;
  stay : Stay l.initial.seats.items l.seats.items;
  served : IsServed g.S.Scheduler.does l.master l.seats.items;
}
