use Rattle.std.proofs.Common.{◌∷◌, refl, sym, ap, ◌∙◌}
use Rattle.std.specs.Option.{option_to_list}
use Rattle.ff_unit.specs.StepLaws.{StepsOnce-gave}
use Rattle.ff_order.specs.OMerges.{OMergeState}
use Rattle.ff_order.proofs.omerge.OMergeUnit.step_once.Goals as goal

pub returns-in-Done-clause-once : goal.returns-in-Done-clause-once
returns-in-Done-clause-once g c =
    let held = option_to_list c.take_out.new.place in
    StepsOnce-gave 0 c.in-Some.m c.in-Done.ensures.link c.in-Done.ensures.gots c.in-Done.ensures.puts.0 (
      refl,
      sym (ap (λ u. u.held) c.self.view_is) ∙ ap option_to_list (sym c.take_out.ensures.value ∙ c.in-Some.is)
          ∙ ap (λ o. c.in-Some.m ∷ option_to_list o) (sym c.take_out.ensures.after),
      ap (λ (u : OMergeState). record u { held = held }) c.self.view_is,
    )
