use Rattle.std.proofs.Common.{◌∙◌, ap, sym}
use Rattle.std.proofs.lemmas.Bool.{eqb-true}
use Rattle.ff_loop.specs.Worklists.{WorkState}
use Rattle.ff_loop.proofs.WorkIdles.{IsIdle-none, next-idle, out-idle}
use Rattle.ff_loop.proofs.worklist.WorklistSchedulerRecordSends.idle.Goals as goal

pub returns-then-self-eq0 : goal.returns-then-self-eq0
returns-then-self-eq0 c =
    let next = ap (λ (w : WorkState). w.next) c.self.view_is in
    let out = ap (λ (w : WorkState). w.out) c.self.view_is in (
      λ empty. IsIdle-none c.args.self.now c.requires (sym out ∙ c.if-self-eq0.true) (sym next ∙ c.is_empty.ensures.0 empty),
      λ idle. c.is_empty.ensures.1 (next ∙ next-idle c.args.self.now c.requires idle),
    )

pub returns-else-self-eq0 : goal.returns-else-self-eq0
returns-else-self-eq0 c =
    let out = ap (λ (w : WorkState). w.out) c.self.view_is in (
      λ none. absurd (c.if-self-eq0.false (eqb-true _ _ none)),
      λ idle. absurd (c.if-self-eq0.false (out ∙ out-idle c.args.self.now c.requires idle)),
    )
