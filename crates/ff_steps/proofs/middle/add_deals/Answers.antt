-- One deal more.
use Rattle.std.proofs.Common.{[], ◌∷◌, ◌++◌, ap, ◌∙◌}
use Rattle.ff_steps.specs.NetUnits.{NetState, AsDeal}
use Rattle.ff_steps.specs.PlanUnits.{route_dealing}
use Rattle.ff_steps.proofs.Times.{times-push}
use Rattle.ff_unit.specs.Deals.{opened_deal}
use Rattle.ff_steps.proofs.middle.add_deals.Goals as goal

pub loop-preserved : goal.loop-preserved
loop-preserved g c =
    times-push c.args.units.now.items c.loop.counter (AsDeal (opened_deal (route_dealing c.args.route) c.args.outs) ∷ []) c.loop.units.items c.push.new.self.items c.loop.invariant
    (c.in_ok-push.ensures.items ∙ ap (λ (u : NetState g.row.N.Denot). c.loop.units.items ++ u ∷ []) (c.of_deal.ensures ∙ ap AsDeal c.route_deal.ensures))
