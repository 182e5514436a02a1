-- The first child number, and then the steps behind it.
use Rattle.std.proofs.Common.{List, ℕ, ◌<◌, [], ◌++◌, length, drop, sym, subst, arith}
use Rattle.std.specs.Fmt.{decimal}
use Rattle.ff_call.specs.Messages.{Writes, steps_text}
use Rattle.ff_call.proofs.PlaceTexts.{place_text-first}
use Rattle.ff_call.proofs.Saying.{Writes-then}
use Rattle.ff_call.proofs.place.write_place.Goals as goal

pub returns : goal.returns
returns g c =
    let a = c.args.sink.now in
    let b = c.write_number.new.sink in
    let d = c.write_steps.new.sink in
    let path = c.args.path.now in
    let n = c.child.result in
    let some : 0 < length path = omega arith in
    subst (λ (bytes : List ℕ). Writes (g.E.Sink.taken a) (g.E.Sink.taken d) (g.E.Sink.faults a) (g.E.Sink.faults d) bytes c.write_steps.result)
    (sym (place_text-first path n some c.child.ensures))
    (Writes-then (g.E.Sink.taken a) (g.E.Sink.taken b) (g.E.Sink.taken d) (g.E.Sink.faults a) (g.E.Sink.faults b) (g.E.Sink.faults d)
    ([] ++ decimal n ++ []) (steps_text (drop 1 path))
    c.in_ok-write_number.field-0 c.write_steps.result c.in_ok-write_number.ensures c.write_steps.ensures)
