-- Nothing was given or taken.
use Rattle.std.proofs.Common.{◌≡◌}
use Rattle.ff_tasks.proofs.seats.hand_over_all.Given as goal

abbrev pub invariant-loop-seat : goal.invariant-loop-seat
invariant-loop-seat g l = l.seat-items ≡ l.initial.seat-items
