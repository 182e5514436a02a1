use Rattle.std.proofs.Common.{ℕ, ◌≤◌, Option, ap, sym, subst, ◌∙◌, arith}
use Rattle.ff_loop.specs.Scheduling.{Nexts}
use Rattle.ff_prog.specs.Links.{links_at}
use Rattle.std.specs.Prelude.{suc, slice_get}
use Rattle.ff_mdf_tasks.specs.ByLinks.{answer_in, task_linked}
use Rattle.ff_mdf_tasks.specs.Schedulers.{mdf_does}
use Rattle.ff_mdf_tasks.specs.declared.task.MdfTask.{MdfTask}
use Rattle.ff_mdf_tasks.proofs.SchedulerViews.{Nexts-none, within-next, out-le, GivesNext-by}
use Rattle.ff_mdf_tasks.proofs.scheduler.MdfSchedulerSchedulerMdfTaskMdfAnswer.next.Goals as goal

pub returns-in_err-k : goal.returns-in_err-k
returns-in_err-k c =
    subst (λ (r : Option (ℕ × MdfTask)). Nexts mdf_does c.args.self.now r c.args.self.now) (sym c.from_residual.ensures)
    (Nexts-none _ c.args.self.now c.self.view_is c.requires (sym c.get.ensures.at ∙ c.in_err-k.was))

pub task_at-task-requires : goal.task_at-task-requires
task_at-task-requires c = within-next _ c.args.self.now c.self.view_is c.requires c.in_ok-k.k (sym c.get.ensures.at ∙ c.in_ok-k.was)

pub overflow_add-self : goal.overflow_add-self
overflow_add-self c = omega (arith, c.in_ok-k.ensures.bound)

pub overflow_add-self-2 : goal.overflow_add-self-2
overflow_add-self-2 c =
    let few : c.self.inside.out ≤ c.self.inside.next = out-le _ c.args.self.now c.self.view_is c.requires in
    omega (arith, c.in_ok-k.ensures.bound)

pub returns : goal.returns
returns c =
    let ss = c.self.inside.program.now in
    let k = c.in_ok-k.k in
    let task = c.task_at-task.ensures ∙ ap (λ xs. task_linked (suc k) (answer_in xs) (slice_get ss k) (links_at ss k)) c.as_slice.ensures.value in
    GivesNext-by _ c.args.self.now c.self.view_is c.requires c.given.new.self k c.task_at-task.result (sym c.get.ensures.at ∙ c.in_ok-k.was) task c.given.ensures
