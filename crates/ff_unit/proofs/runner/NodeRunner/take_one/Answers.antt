use Rattle.std.proofs.Common.{◌≡◌, None, refl, ap, sym, subst, ◌∙◌}
use Rattle.ff_port.specs.declared.answers.Step.TheVariants.{Moved}
use Rattle.ff_unit.specs.StageParts.{led_by}
use Rattle.ff_unit.specs.StageSteps.{behind_of}
use Rattle.ff_unit.specs.StageUnit.{runner_does}
use Rattle.ff_unit.specs.StepLaws.{StepsOnce-took}
use Rattle.ff_unit.specs.Units.{StepsOnce}
use Rattle.ff_unit.proofs.StageThrough.{led_by-none}
use Rattle.ff_unit.proofs.runner.NodeRunner.take_one.Goals as goal

pub returns-in-Some : goal.returns-in-Some
returns-in-Some g c =
    let i = c.self.inside in
    let d = runner_does g.N.Node.does (behind_of c.args.marks) in
    let none = led_by-none i.refused i.working (ap (λ u. u.held) c.self.view_is ∙ c.requires.held) in
    let fin : i.working.fin ≡ None = ap (λ u. u.fin) c.self.view_is ∙ c.requires.fin in
    subst (λ u. StepsOnce d g.P.Ports u c.args.ports.now Moved (led_by i.refused c.receive.new.self) c.try_take.new.self) c.self.view_is
    (subst (λ f. StepsOnce d g.P.Ports (led_by f i.working) c.args.ports.now Moved (led_by f c.receive.new.self) c.try_take.new.self) (sym none.0)
    (StepsOnce-took 0 c.in-Some.m c.in-Some.ensures.link c.in-Some.ensures.takes c.in-Some.ensures.puts (refl, none.1, fin, c.receive.ensures)))
