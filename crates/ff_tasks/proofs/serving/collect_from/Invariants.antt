-- What went over the worker's rings is what the master did.
use Rattle.std.proofs.Common.{◌≡◌, ◌<◌, length}
use Rattle.ff_tasks.specs.Serving.{ServesAt}
use Rattle.ff_tasks.proofs.serving.collect_from.Given as goal

abbrev pub invariant-loop-taken : goal.invariant-loop-taken
invariant-loop-taken g l = record {
  serves : ServesAt g.S.Scheduler.does l.w l.initial.master l.initial.seat l.master l.seat;
  link : l.seat.link ≡ l.initial.seat.link;
  told : l.seat.told ≡ l.initial.seat.told;
  worker : l.w < length l.master.held;
}
