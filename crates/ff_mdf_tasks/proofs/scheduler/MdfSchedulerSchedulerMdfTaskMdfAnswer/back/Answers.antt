use Rattle.std.proofs.Common.{◌<◌, length, arith}
use Rattle.std.proofs.lemmas.Result.{on_ok_weaker}
use Rattle.ff_mdf_tasks.proofs.SchedulerViews.{within-back, answer-within, some_out, Goes-back-by}
use Rattle.ff_mdf_tasks.proofs.scheduler.MdfSchedulerSchedulerMdfTaskMdfAnswer.back.Goals as goal

pub index_mut-requires : goal.index_mut-requires
index_mut-requires c =
    let within : c.args.id < length c.self.inside.answers.items = answer-within _ c.args.self.now c.self.view_is c.requires.right c.args.id c.args.a c.requires.out in
    omega (arith, c.self.inside.answers.ok.0)

pub overflow_sub-self : goal.overflow_sub-self
overflow_sub-self c = some_out _ c.args.self.now c.self.view_is c.requires.right c.args.id c.args.a c.requires.out

pub wake-requires-clause-within : goal.wake-requires-clause-within
wake-requires-clause-within c = within-back _ c.args.self.now c.self.view_is c.requires.right c.args.id c.args.a c.requires.out

pub returns : goal.returns
returns c = on_ok_weaker c.wake.result
    (λ wakes. Goes-back-by _ c.args.self.now c.self.view_is c.requires.right c.args.id c.args.a c.requires.out c.back.new.self c.as_slice-answers.result.now c.wake.new.queue
    c.back.ensures c.as_slice-answers.ensures.value wakes)
    c.wake.ensures
