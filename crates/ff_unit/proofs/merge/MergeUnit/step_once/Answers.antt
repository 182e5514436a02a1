use Rattle.std.specs.Option.{option_to_list}
use Rattle.std.proofs.Common.{refl, ap, sym, subst, ◌∙◌, ◌∷◌, Option}
use Rattle.ff_node.specs.Runs.{Message}
use Rattle.ff_port.specs.declared.answers.Step.TheVariants.{Moved}
use Rattle.ff_unit.specs.Merges.{MergeState, merge_does}
use Rattle.ff_unit.specs.StepLaws.{StepsOnce-gave}
use Rattle.ff_unit.specs.Units.{StepsOnce}
use Rattle.ff_unit.proofs.merge.MergeUnit.step_once.Goals as goal

pub returns-in-Done-clause-once : goal.returns-in-Done-clause-once
returns-in-Done-clause-once g c =
    let i = c.self.inside in
    let new : MergeState = record { live = i.live; held = option_to_list c.take_out.new.place; end = i.end; done = i.done; told = i.told } in
    subst (λ (u : MergeState). StepsOnce merge_does g.P.Ports u c.args.ports.now Moved new c.try_put.new.self) c.self.view_is
    (StepsOnce-gave 0 c.in-Some.m c.in-Done.ensures.link c.in-Done.ensures.gots c.in-Done.ensures.puts.0 (
      refl,
      ap option_to_list (sym c.in-Some.ensures.value) ∙ ap (λ (h : Option Message). c.in-Some.m ∷ option_to_list h) (sym c.in-Some.ensures.after),
      refl,
    ))
