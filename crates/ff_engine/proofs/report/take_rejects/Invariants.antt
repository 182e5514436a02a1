-- What is kept so far and what the unit still holds are what both were.
use Rattle.std.proofs.Common.{◌≡◌, ◌++◌, length}
use Rattle.ff_engine.proofs.report.take_rejects.Given as goal

abbrev pub invariant-loop-r : goal.invariant-loop-r
invariant-loop-r g l = l.kept ++ g.U.Unit.does.kept l.unit ≡ l.initial.kept ++ g.U.Unit.does.kept l.initial.unit

abbrev pub decreases-loop-r : goal.decreases-loop-r
decreases-loop-r g l = length (g.U.Unit.does.kept l.unit)
