use Rattle.std.proofs.Common.{refl, sym, subst, Some}
use Rattle.ff_port.specs.declared.answers.Step.TheVariants.{Moved}
use Rattle.ff_unit.specs.StageParts.{led_by}
use Rattle.ff_unit.specs.StageSteps.{behind_of}
use Rattle.ff_unit.specs.StageUnit.{runner_does}
use Rattle.ff_unit.specs.StepLaws.{StepsOnce-gave}
use Rattle.ff_unit.specs.Units.{StepsOnce}
use Rattle.ff_unit.proofs.runner.steps.put.Goals as goal

pub returns-in-Done-clause-once : goal.returns-in-Done-clause-once
returns-in-Done-clause-once g c =
    let w = c.args.working.now in
    subst (λ f. StepsOnce (runner_does g.N.Node.does (behind_of c.args.marks)) g.P.Ports (led_by (Some c.args.m) w) c.args.ports.now Moved (led_by f w) c.try_put.new.self)
    (sym c.requires.empty) (StepsOnce-gave 0 c.args.m c.in-Done.ensures.link c.in-Done.ensures.gots c.in-Done.ensures.puts.0 (refl, refl, refl))
