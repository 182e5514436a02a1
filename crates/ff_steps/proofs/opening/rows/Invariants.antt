-- The rows of the units so far.
use Rattle.std.proofs.Common.{◌≡◌, map, take}
use Rattle.ff_steps.specs.NetCores.{port_row}
use Rattle.ff_steps.proofs.opening.rows.Given as goal

abbrev pub invariant-loop-unit : goal.invariant-loop-unit
invariant-loop-unit l = l.rows.items ≡ map port_row (take l.unit-index l.units)
