use Rattle.std.proofs.Common.{length, ap, sym, ◌∙◌, eq-eqb, eqb-true}
use Rattle.ff_mdf_tasks.specs.Schedulers.{MdfState}
use Rattle.ff_mdf_tasks.proofs.SchedulerIdles.{IsIdle-all, next-idle, out-idle}
use Rattle.ff_mdf_tasks.proofs.scheduler.MdfSchedulerSchedulerMdfTaskMdfAnswer.idle.Goals as goal

pub returns-then-self-eq0 : goal.returns-then-self-eq0
returns-then-self-eq0 c =
    let out = ap (λ (s : MdfState). s.out) c.self.view_is in
    let next = ap (λ (s : MdfState). s.next) c.self.view_is in
    let order = ap (λ (s : MdfState). length s.queue.order) c.self.view_is in (
      λ all. IsIdle-all c.args.self.now c.requires (sym out ∙ c.if-self-eq0.true) (sym next ∙ eqb-true _ _ all ∙ c.len.ensures ∙ order),
      λ idle. eq-eqb _ _ (next ∙ next-idle c.args.self.now c.requires idle ∙ sym order ∙ sym c.len.ensures),
    )

pub returns-else-self-eq0 : goal.returns-else-self-eq0
returns-else-self-eq0 c =
    let out = ap (λ (s : MdfState). s.out) c.self.view_is in (
      λ none. absurd (c.if-self-eq0.false (eqb-true _ _ none)),
      λ idle. absurd (c.if-self-eq0.false (out ∙ out-idle c.args.self.now c.requires idle)),
    )
