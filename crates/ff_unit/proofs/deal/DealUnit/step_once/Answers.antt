use Rattle.std.proofs.Common.{sym, subst}
use Rattle.ff_port.specs.declared.answers.Step.TheVariants.{Moved}
use Rattle.ff_unit.specs.Deals.{DealState, deal_does}
use Rattle.ff_unit.specs.StepLaws.{StepsOnce-gave}
use Rattle.ff_unit.specs.Units.{StepsOnce}
use Rattle.ff_unit.proofs.DealOuts.{DealStep-held}
use Rattle.ff_unit.proofs.deal.DealUnit.step_once.Goals as goal

pub returns-in-Done-clause-once : goal.returns-in-Done-clause-once
returns-in-Done-clause-once g c =
    let i = c.self.inside in
    let put = c.in-Done.ensures.puts in
    let u : DealState = record { way = i.way; places = i.places; turn = i.turn; free = i.free; held = i.held; live = i.live; end = i.end; done = i.done; told = i.told } in
    let new : DealState = record u { free = c.take_out.new.place; held = c.put_first.new.self } in
    subst (λ w. StepsOnce deal_does g.P.Ports w c.args.ports.now Moved new c.put_first.new.ports) c.self.view_is
    (StepsOnce-gave put.0.0 put.0.1 c.in-Done.ensures.link c.in-Done.ensures.gots put.2
    (DealStep-held u c.take_out.new.place put.0 c.put_first.new.self (sym c.in-None.ensures.value) c.in-None.ensures.after put.1))
