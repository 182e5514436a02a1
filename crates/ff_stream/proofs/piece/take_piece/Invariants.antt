use Rattle.std.proofs.Common.{◌≡◌, ◌+◌, ◌<◌, ◌≤◌, [], None, Some, length}
use Rattle.ff_stream.specs.Reads.{Reads}
use Rattle.ff_stream.proofs.piece.take_piece.Given as goal

-- the parts so far were read from the piece, as pieces are from a source
abbrev pub invariant-loop-rest : goal.invariant-loop-rest
invariant-loop-rest g l = record {
  reads : Reads g.W.Intake.stands l.initial.work l.initial.reader l.work l.reader (Some l.piece) (Some l.rest) (g.O.Sink.taken l.initial.sink) (g.O.Sink.taken l.sink);
  going : l.reader.fault ≡ None;
  used : l.queue.items ≡ [];
  taken : l.reader.taken + length l.rest ≡ l.initial.reader.taken + length l.piece;
  room : length l.rest < length l.piece → l.reader.taken ≤ l.initial.reader.input_limit;
  limit : l.reader.input_limit ≡ l.initial.reader.input_limit;
  silent : g.O.Sink.faults l.sink ≡ g.O.Sink.faults l.initial.sink;
}

abbrev pub decreases-loop-rest : goal.decreases-loop-rest
decreases-loop-rest g l = length l.rest
