use Rattle.std.proofs.Common.{◌≡◌, [], Some, refl, ap, sym, subst, ◌∙◌}
use Rattle.ff_rec.specs.declared.msg.Msg.TheVariants.{Item}
use Rattle.ff_node.specs.Runs.{Took}
use Rattle.ff_unit.specs.StageLaws.{IsUnit-stage}
use Rattle.ff_unit.specs.StageParts.{led_by}
use Rattle.ff_unit.specs.StageSteps.{StageStep}
use Rattle.ff_unit.specs.StageUnit.{stage_does}
use Rattle.ff_unit.specs.Units.{StepsOnce, StaysAt}
use Rattle.ff_unit.proofs.StageThrough.{TakesHeld-none, TakesHeld-some, IsOpen-held, Ready-took, through-took, through-put}
use Rattle.ff_unit.proofs.runner.NodeRunner.step_through.Goals as goal

pub put-requires-in-Some-take_sent-clause-inner : goal.put-requires-in-Some-take_sent-clause-inner
put-requires-in-Some-take_sent-clause-inner g c =
    let b = g.N.Node.does in
    let i = c.self.inside in
    let w = c.receive.new.self in
    let t = c.in-Some-try_take in
    let took : StageStep b [] c.take_held.new.working (Took 0 t.m) w = (refl, c.in_default.ensures.taken.1, sym c.in_default-fin.ensures, c.receive.ensures) in
    let same : c.args.self.now ≡ c.take_held.new.working = sym c.self.view_is ∙ TakesHeld-none i.refused i.working c.take_held.new.working c.in_default.ensures.taken c.in_default.ensures.rest in
    let steps = subst (λ u. StageStep b [] u (Took 0 t.m) w) (sym same) took in
    IsOpen-held (Item c.in-Some-take_sent.r) c.take_sent.new.self.held w (g.P.Ports.gots c.try_take.new.self) (g.P.Ports.puts c.try_take.new.self)
    (Ready-took b g.P.Ports c.args.self.now w c.args.ports.now c.try_take.new.self t.m steps t.ensures.link t.ensures.takes t.ensures.puts
    (IsUnit-stage b g.met.N.Node.keeps_kind g.met.N.Node.class_law) c.requires.ran)
    c.in-Some-take_sent.ensures.0

pub returns-in-Some-take_sent : goal.returns-in-Some-take_sent
returns-in-Some-take_sent g c =
    let b = g.N.Node.does in
    let i = c.self.inside in
    let w = c.receive.new.self in
    let t = c.in-Some-try_take in
    let p = c.put-in-Some-take_sent in
    let took : StageStep b [] c.take_held.new.working (Took 0 t.m) w = (refl, c.in_default.ensures.taken.1, sym c.in_default-fin.ensures, c.receive.ensures) in
    let same : c.args.self.now ≡ c.take_held.new.working = sym c.self.view_is ∙ TakesHeld-none i.refused i.working c.take_held.new.working c.in_default.ensures.taken c.in_default.ensures.rest in
    let steps = subst (λ u. StageStep b [] u (Took 0 t.m) w) (sym same) took in
    let held : led_by (Some (Item c.in-Some-take_sent.r)) c.take_sent.new.self ≡ w = TakesHeld-some (Item c.in-Some-take_sent.r) w c.take_sent.new.self c.in-Some-take_sent.ensures.0 c.in-Some-take_sent.ensures.1 in
    through-put b g.P.Ports c.args.self.now w c.args.ports.now c.try_take.new.self t.m steps t.ensures.link t.ensures.takes t.ensures.puts
    p.result (led_by p.new.refused p.new.working) p.new.ports
    (subst (λ u. StepsOnce (stage_does b) g.P.Ports u c.try_take.new.self p.result (led_by p.new.refused p.new.working) p.new.ports) held p.ensures.once)
    p.ensures.answers
    (λ e. subst (λ u. StaysAt g.P.Ports u c.try_take.new.self (led_by p.new.refused p.new.working) p.new.ports) held (p.ensures.waits e))

pub returns-in_default-take_sent : goal.returns-in_default-take_sent
returns-in_default-take_sent g c =
    let b = g.N.Node.does in
    let i = c.self.inside in
    let w = c.receive.new.self in
    let t = c.in-Some-try_take in
    let took : StageStep b [] c.take_held.new.working (Took 0 t.m) w = (refl, c.in_default.ensures.taken.1, sym c.in_default-fin.ensures, c.receive.ensures) in
    let same : c.args.self.now ≡ c.take_held.new.working = sym c.self.view_is ∙ TakesHeld-none i.refused i.working c.take_held.new.working c.in_default.ensures.taken c.in_default.ensures.rest in
    let steps = subst (λ u. StageStep b [] u (Took 0 t.m) w) (sym same) took in
    through-took b g.P.Ports c.args.self.now w c.args.ports.now c.try_take.new.self t.m steps t.ensures.link t.ensures.takes t.ensures.puts
    (led_by c.take_held.new.refused c.take_sent.new.self)
    (sym c.in_default-take_sent.ensures ∙ ap (λ f. led_by f c.take_sent.new.self) (sym c.in_default.ensures.refused))
