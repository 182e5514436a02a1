-- So many deals were added.
use Rattle.std.proofs.Common.{◌≡◌, ◌++◌, [], ◌∷◌}
use Rattle.ff_steps.specs.NetUnits.{AsDeal}
use Rattle.ff_steps.specs.PlanUnits.{times, route_dealing}
use Rattle.ff_unit.specs.Deals.{opened_deal}
use Rattle.ff_steps.proofs.middle.add_deals.Given as goal

abbrev pub invariant-loop : goal.invariant-loop
invariant-loop g l = l.units.items ≡ l.initial.units.items ++ times l.counter (AsDeal (opened_deal (route_dealing l.route) l.outs) ∷ [])
