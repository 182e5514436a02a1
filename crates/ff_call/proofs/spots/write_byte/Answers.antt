-- The message goes in two pieces.
use Rattle.std.proofs.Common.{◌++◌}
use Rattle.std.specs.Fmt.{decimal}
use Rattle.std.specs.Prelude.{codes}
use Rattle.std.proofs.lemmas.Result.{err_from_is_err_and}
use Rattle.ff_call.proofs.Saying.{Writes-then, Writes-stopped}
use Rattle.ff_call.proofs.spots.write_byte.Goals as goal

pub returns-in_err-write_number : goal.returns-in_err-write_number
returns-in_err-write_number g c =
    let a = c.args.sink.now in
    let b = c.write_number.new.sink in
    let p = err_from_is_err_and c.from_residual.result c.from_residual.ensures.1 in
    Writes-stopped (g.E.Sink.taken a) (g.E.Sink.taken b) (g.E.Sink.faults a) (g.E.Sink.faults b)
    (codes "ffrun: byte " ++ decimal c.args.at ++ codes ": ") (c.args.name.now ++ codes "\n")
    c.from_residual.result c.in_err-write_number.field-0.0 p.0 p.1 c.in_err-write_number.ensures

pub returns : goal.returns
returns g c =
    let a = c.args.sink.now in
    let b = c.write_number.new.sink in
    let d = c.write_two.new.sink in
    Writes-then (g.E.Sink.taken a) (g.E.Sink.taken b) (g.E.Sink.taken d) (g.E.Sink.faults a) (g.E.Sink.faults b) (g.E.Sink.faults d)
    (codes "ffrun: byte " ++ decimal c.args.at ++ codes ": ") (c.args.name.now ++ codes "\n")
    c.in_ok-write_number.field-0 c.write_two.result c.in_ok-write_number.ensures c.write_two.ensures
