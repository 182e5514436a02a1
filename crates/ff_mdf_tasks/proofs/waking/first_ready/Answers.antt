use Rattle.ff_mdf_tasks.specs.ByLinks.{answer_in}
use Rattle.ff_mdf_tasks.proofs.QueueLaws.{QueuesUntil-next}
use Rattle.ff_mdf_tasks.proofs.waking.first_ready.Goals as goal

pub loop-k-preserved : goal.loop-k-preserved
loop-k-preserved c =
    QueuesUntil-next c.args.program.now (answer_in c.args.answers.now) c.loop-k.k c.loop-k.queue c.queue_ready.new.queue c.loop-k.invariant c.in_ok-queue_ready.ensures
