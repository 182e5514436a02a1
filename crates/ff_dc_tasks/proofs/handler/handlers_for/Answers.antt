use Rattle.std.proofs.Common.{◌≡◌, ◌∷◌, [], All, length, ap, sym, subst, ◌∙◌, arith, length-append}
use Rattle.std.specs.Arc.{arc_value}
use Rattle.std.proofs.lemmas.List.Elements.{All-push}
use Rattle.ff_dc_tasks.specs.declared.handler.DcHandler.{DcHandler}
use Rattle.ff_dc_tasks.specs.Tasks.{answer_of}
use Rattle.ff_dc_tasks.proofs.handler.handlers_for.Goals as goal

pub loop-init : goal.loop-init
loop-init g c = (ap length c.new-handlers.ensures.items, λ k d h. absurd (omega (arith, h, ap length c.new-handlers.ensures.items)))

pub loop-preserved : goal.loop-preserved
loop-preserved g c =
    let f = answer_of (g.F.RuleFunctions.rule c.args.functions) in
    let new : DcHandler g.row.F.Denot = record { functions = c.args.functions; numbers = c.in_ok-try_clone.field-0 } in (
      omega (arith, ap length c.in_ok-push.ensures.items, length-append c.loop.handlers.items (new ∷ []), c.loop.invariant.0),
      subst (All (λ h. answer_of (g.F.RuleFunctions.rule h.functions) (arc_value h.numbers) ≡ f (arc_value c.in_ok-shared.shared))) (sym c.in_ok-push.ensures.items)
          (All-push (λ h. answer_of (g.F.RuleFunctions.rule h.functions) (arc_value h.numbers) ≡ f (arc_value c.in_ok-shared.shared)) c.loop.handlers.items new
          c.loop.invariant.1 (ap f c.in_ok-try_clone.ensures)),
    )

pub returns-clause-count : goal.returns-clause-count
returns-clause-count g c = omega (arith, c.loop.invariant.0)

pub returns-clause-alike : goal.returns-clause-alike
returns-clause-alike g c = λ k d h. c.loop.invariant.1 k d h ∙ ap (answer_of (g.F.RuleFunctions.rule c.args.functions)) (c.in_ok-shared.ensures.ok ∙ c.in_ok-copy.ensures)
