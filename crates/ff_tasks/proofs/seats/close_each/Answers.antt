-- One seat more.
use Rattle.std.proofs.Common.{◌<◌, length, sym, subst, arith}
use Rattle.ff_tasks.specs.Seats.{Outlives}
use Rattle.ff_tasks.proofs.Ends.{AllOutlive-refl, AllOutlive-set, Outlives-trans}
use Rattle.ff_tasks.proofs.seats.close_each.Goals as goal

pub loop-seat-init : goal.loop-seat-init
loop-seat-init g c = AllOutlive-refl c.deref_mut-seat-items.result.now

pub loop-seat-preserved : goal.loop-seat-preserved
loop-seat-preserved g c =
    let within : c.loop-seat.seat-index < length c.loop-seat.seat-items = omega (arith, c.loop-seat-test.true, c.loop-seat.auto.seat-items) in
    AllOutlive-set c.deref_mut-seat-items.result.now c.loop-seat.seat-items c.loop-seat.seat-index c.seat-item.result c.drop_answers-ended.new.self c.loop-seat.invariant
    within c.seat-item.is
    (Outlives-trans c.seat-item.result c.close-told.new.self c.drop_answers-ended.new.self
    (subst (λ s. Outlives s c.close-told.new.self) (sym c.seat-item.is) c.close-told.ensures) c.drop_answers-ended.ensures)
