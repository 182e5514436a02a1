-- Behind a task, and behind another statement.
use Rattle.std.proofs.Common.{◌<◌, sym, ◌∙◌, arith, subst, ◌+◌}
use Rattle.ff_prog.proofs.TaskCounts.{CountsTasks, CountsTasks-task, CountsTasks-other}
use Rattle.ff_prog.proofs.rules.first_past_most.Goals as goal
use Rattle.ff_prog.proofs.rules.first_past_most.Goals.{then-is_task_at+else-tasks-ge-MOST_TASKS, else-is_task_at}

pub loop-k-preserved : goal.loop-k-preserved
loop-k-preserved c =
    let ss = c.args.statements.now in
    let k = c.loop-k.k in
    elim c.if-is_task_at.branch [
      | then-is_task_at+else-tasks-ge-MOST_TASKS w ↦
          let few : c.loop-k.tasks < 4096 = omega arith in
          subst (CountsTasks ss (k + 1)) (sym w.tasks-is) (CountsTasks-task ss k c.loop-k.tasks c.loop-k-test.true c.loop-k.invariant (sym c.is_task_at.ensures ∙ w.if-is_task_at.true) few)
      | else-is_task_at w ↦
          subst (CountsTasks ss (k + 1)) (sym w.tasks-is) (CountsTasks-other ss k c.loop-k.tasks c.loop-k-test.true c.loop-k.invariant (sym c.is_task_at.ensures ∙ w.if-is_task_at.false))
    ]
