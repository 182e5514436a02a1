-- One event more.
use Rattle.std.proofs.Common.{◌<◌, length, take, arith}
use Rattle.ff_steps.specs.Core.{IsSound}
use Rattle.ff_steps.proofs.Schedules.{Follows-more, taken_rejects-follows}
use Rattle.ff_steps.proofs.schedule.run_schedule.Goals as goal

pub loop-p-preserved : goal.loop-p-preserved
loop-p-preserved g c =
    let within : c.loop-p.p-index < length c.args.schedule.now = omega arith in
    Follows-more g.U.Unit.does (IsSound g.U.Unit.does) c.args.schedule.now c.loop-p.p-index _ _ _ within c.loop-p.invariant c.step.ensures.event c.step.ensures.sound

pub returns-clause-taken : goal.returns-clause-taken
returns-clause-taken g c =
    taken_rejects-follows g.U.Unit.does g.met.U.Unit.sound (IsSound g.U.Unit.does) (take c.loop-p.p-index c.args.schedule.now) c.args.core.now c.loop-p.core c.loop-p.invariant
