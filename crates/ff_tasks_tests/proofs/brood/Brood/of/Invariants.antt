use Rattle.ff_loop.specs.Events.{NoneOut}
use Rattle.ff_tasks_tests.specs.Broods.{IsRight}
use Rattle.ff_tasks_tests.proofs.brood.Brood.of.Given as goal

abbrev pub invariant-loop-t : goal.invariant-loop-t
invariant-loop-t l = record {
  right : IsRight l.brood;
  none_out : NoneOut l.brood.events;
}
