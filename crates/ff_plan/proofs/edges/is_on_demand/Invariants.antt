use Rattle.std.proofs.Common.{◌≡◌, drop}
use Rattle.ff_plan.specs.Plans.{is_on_demand}
use Rattle.ff_plan.proofs.edges.is_on_demand.Given as goal

-- the units that are left decide
abbrev pub invariant-loop-unit : goal.invariant-loop-unit
invariant-loop-unit l = is_on_demand l.units l.edge ≡ is_on_demand (drop l.unit-index l.units) l.edge
