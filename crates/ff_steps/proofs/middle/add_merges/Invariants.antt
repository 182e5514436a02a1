-- So many merges were added.
use Rattle.std.proofs.Common.{◌≡◌, ◌++◌, [], ◌∷◌}
use Rattle.ff_steps.specs.NetUnits.{AsMerge}
use Rattle.ff_steps.specs.PlanUnits.{times}
use Rattle.ff_unit.specs.Merges.{opened_merge}
use Rattle.ff_steps.proofs.middle.add_merges.Given as goal

abbrev pub invariant-loop : goal.invariant-loop
invariant-loop g l = l.units.items ≡ l.initial.units.items ++ times l.counter (AsMerge (opened_merge l.ins) ∷ [])
