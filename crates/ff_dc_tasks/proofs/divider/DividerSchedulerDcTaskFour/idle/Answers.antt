use Rattle.std.proofs.Common.{◌≡◌, [], ap, sym, ◌∙◌}
use Rattle.std.proofs.lemmas.Bool.{true≢false, eqb-true}
use Rattle.ff_dc_tasks.specs.Dividers.{DividerState}
use Rattle.ff_dc_tasks.proofs.DividerIdles.{IsIdle-none, out-idle, ready-idle, todo-idle}
use Rattle.ff_dc_tasks.proofs.DividerViews.{is_empty-none, none-is_empty}
use Rattle.ff_dc_tasks.proofs.divider.DividerSchedulerDcTaskFour.idle.Goals.{then-self-eq0, else-self-eq0}
use Rattle.ff_dc_tasks.proofs.divider.DividerSchedulerDcTaskFour.idle.Goals as goal

pub returns-then-is_empty : goal.returns-then-is_empty
returns-then-is_empty g c =
    let ready = ap (λ (s : DividerState). s.ready) c.self.view_is in
    let out = ap (λ (s : DividerState). s.out) c.self.view_is in
    let todo = ap (λ (s : DividerState). s.walk.todo) c.self.view_is in
    let none : (c.self.inside.out ≡ 0) × (c.self.inside.ready.items ≡ []) = elim c.if-self-eq0.branch [
      | then-self-eq0 w ↦ (w.if-self-eq0.true, is_empty-none c.self.inside.ready w.is_empty.result w.is_empty.ensures (sym w.value-is ∙ c.if-is_empty.true))
      | else-self-eq0 w ↦ absurd (w.if-self-eq0.false (eqb-true c.self.inside.out 0 (sym w.value-is ∙ c.if-is_empty.true)))
    ] in (
      λ over. IsIdle-none c.args.self.now c.requires (sym out ∙ none.0) (sym ready ∙ none.1) (sym todo ∙ c.is_over.ensures.0 over),
      λ idle. c.is_over.ensures.1 (todo ∙ todo-idle c.args.self.now c.requires idle),
    )

pub returns-else-is_empty : goal.returns-else-is_empty
returns-else-is_empty g c =
    let ready = ap (λ (s : DividerState). s.ready) c.self.view_is in
    let out = ap (λ (s : DividerState). s.out) c.self.view_is in (
      λ idle. absurd (true≢false (sym idle ∙ c.if-is_empty.false)),
      λ idle. elim c.if-self-eq0.branch [
        | then-self-eq0 w ↦ absurd (true≢false (
            sym (none-is_empty c.self.inside.ready w.is_empty.result w.is_empty.ensures (ready ∙ ready-idle c.args.self.now c.requires idle))
            ∙ sym w.value-is ∙ c.if-is_empty.false
            ))
        | else-self-eq0 w ↦ absurd (w.if-self-eq0.false (out ∙ out-idle c.args.self.now c.requires idle))
      ],
    )
