-- The message, and behind it the line of rejected records.
use Rattle.std.proofs.Common.{ℕ, ◌++◌, subst}
use Rattle.ff_call.specs.Messages.{Writes, message, rejected_line}
use Rattle.ff_call.proofs.Saying.{Writes-then}
use Rattle.ff_call.proofs.telling.say_fault.Goals as goal

pub returns : goal.returns
returns g c =
    let a = c.args.sink.now in
    let b = c.write.new.sink in
    let d = c.write_rejected.new.sink in
    subst (λ (n : ℕ). Writes (g.E.Sink.taken a) (g.E.Sink.taken d) (g.E.Sink.faults a) (g.E.Sink.faults d) (message c.args.fault.now ++ rejected_line n) c.write_rejected.result)
    c.rejected.ensures
    (Writes-then (g.E.Sink.taken a) (g.E.Sink.taken b) (g.E.Sink.taken d) (g.E.Sink.faults a) (g.E.Sink.faults b) (g.E.Sink.faults d) (message c.args.fault.now) (rejected_line c.rejected.result)
    c.in_ok-write.field-0 c.write_rejected.result c.in_ok-write.ensures c.write_rejected.ensures)
