use Rattle.std.proofs.Common.{◌≡◌}
use Rattle.ff_mdf_tasks.specs.ByLinks.{answer_in}
use Rattle.ff_mdf_tasks.proofs.QueueLaws.{WakesFrom, readers_left}
use Rattle.ff_mdf_tasks.proofs.waking.wake.Given as goal

-- the readers so far are woken
abbrev pub invariant-loop-reader : goal.invariant-loop-reader
invariant-loop-reader l = record {
  size : l.queue.size ≡ l.initial.queue.size;
  wakes : WakesFrom l.program (answer_in l.answers) l.id l.initial.queue.order l.reader l.queue.order;
}

abbrev pub decreases-loop-reader : goal.decreases-loop-reader
decreases-loop-reader l = readers_left l.reader
