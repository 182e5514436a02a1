-- What is kept so far, and what the other units hold, is all that they held.
use Rattle.std.proofs.Common.{◌≡◌, ◌++◌, drop}
use Rattle.std.specs.List.{flat_map}
use Rattle.ff_engine.proofs.report.report_of.Given as goal

abbrev pub invariant-loop-unit : goal.invariant-loop-unit
invariant-loop-unit g l =
    l.kept ++ flat_map g.U.Unit.does.kept (drop l.unit-index l.unit-items) ≡ flat_map g.U.Unit.does.kept l.initial.unit-items
