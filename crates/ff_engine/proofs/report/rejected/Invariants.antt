-- The rejects of the units so far.
use Rattle.std.proofs.Common.{◌≡◌, take}
use Rattle.std.specs.Prelude.{sum_by}
use Rattle.ff_rec.specs.Counts.{counted}
use Rattle.ff_engine.proofs.report.rejected.Given as goal

abbrev pub invariant-loop-unit : goal.invariant-loop-unit
invariant-loop-unit g l = l.count ≡ counted (sum_by g.U.Unit.does.rejects (take l.unit-index l.units))
