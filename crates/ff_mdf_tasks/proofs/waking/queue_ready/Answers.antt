use Rattle.std.proofs.Common.{sym, ◌∙◌}
use Rattle.ff_mdf_tasks.specs.ByLinks.{answer_in}
use Rattle.ff_mdf_tasks.proofs.QueueLaws.{QueuesReady-added}
use Rattle.ff_mdf_tasks.proofs.waking.queue_ready.Goals as goal

pub returns-in_ok-add : goal.returns-in_ok-add
returns-in_ok-add c =
    QueuesReady-added c.args.program.now (answer_in c.args.answers.now) c.args.k c.args.queue.now c.add.new.self (sym c.is_ready.ensures ∙ c.if-is_ready.true) c.in_ok-add.ensures
