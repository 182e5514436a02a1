-- Two pieces, and the third behind them.
use Rattle.std.proofs.Common.{◌++◌}
use Rattle.ff_call.proofs.Saying.{Writes-then}
use Rattle.ff_call.proofs.pieces.write_three.Goals as goal

pub returns : goal.returns
returns g c =
    let a = c.args.sink.now in
    let b = c.write_two.new.sink in
    let d = c.write_piece.new.sink in
    Writes-then (g.E.Sink.taken a) (g.E.Sink.taken b) (g.E.Sink.taken d) (g.E.Sink.faults a) (g.E.Sink.faults b) (g.E.Sink.faults d)
    (c.args.first.now ++ c.args.second.now) c.args.third.now c.in_ok-write_two.field-0 c.write_piece.result c.in_ok-write_two.ensures c.write_piece.ensures
