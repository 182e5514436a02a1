-- The events so far.
use Rattle.std.proofs.Common.{take}
use Rattle.ff_steps.specs.Core.{IsSound}
use Rattle.ff_steps.specs.Events.{Follows}
use Rattle.ff_steps.proofs.schedule.run_schedule.Given as goal

abbrev pub invariant-loop-p : goal.invariant-loop-p
invariant-loop-p g l = Follows g.U.Unit.does (IsSound g.U.Unit.does) (take l.p-index l.schedule) l.fn.core l.core
