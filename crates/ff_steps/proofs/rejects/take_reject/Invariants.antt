-- The units that were looked at hold no reject, and none has changed.
use Rattle.std.proofs.Common.{◌≡◌}
use Rattle.ff_steps.specs.Rejects.{NoneBelow}
use Rattle.ff_steps.proofs.rejects.take_reject.Given as goal

abbrev pub invariant-loop-p : goal.invariant-loop-p
invariant-loop-p g l = record { same : l.units.items ≡ l.fn.units.items; below : NoneBelow g.U.Unit.does l.fn.units.items l.p }
