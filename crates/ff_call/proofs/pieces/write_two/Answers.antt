-- One piece, and the other behind it.
use Rattle.ff_call.proofs.Saying.{Writes-then}
use Rattle.ff_call.proofs.pieces.write_two.Goals as goal

pub returns : goal.returns
returns g c =
    let a = c.args.sink.now in
    let b = c.write_piece.new.sink in
    let d = c.write_piece-2.new.sink in
    Writes-then (g.E.Sink.taken a) (g.E.Sink.taken b) (g.E.Sink.taken d) (g.E.Sink.faults a) (g.E.Sink.faults b) (g.E.Sink.faults d)
    c.args.first.now c.args.second.now c.in_ok-write_piece.field-0 c.write_piece-2.result c.in_ok-write_piece.ensures c.write_piece-2.ensures
