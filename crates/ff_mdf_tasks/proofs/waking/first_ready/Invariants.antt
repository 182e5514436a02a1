use Rattle.ff_mdf_tasks.specs.ByLinks.{answer_in}
use Rattle.ff_mdf_tasks.specs.Queues.{QueuesUntil}
use Rattle.ff_mdf_tasks.proofs.waking.first_ready.Given as goal

-- those of the statements so far that are ready
abbrev pub invariant-loop-k : goal.invariant-loop-k
invariant-loop-k l = QueuesUntil l.program (answer_in l.answers) l.k l.queue
