use Rattle.std.proofs.Common.{◌≡◌, ◌++◌, length}
use Rattle.ff_rec.specs.Lines.{text}
use Rattle.ff_stream.specs.Texts.{Writes}
use Rattle.ff_stream.proofs.write.write_records.Given as goal

-- what was written so far, what is held, and the text of the records that are left
abbrev pub invariant-loop-r : goal.invariant-loop-r
invariant-loop-r g l = record {
  writes : Writes (text l.initial.records) (l.held ++ text l.records) (g.O.Sink.taken l.initial.sink) (g.O.Sink.taken l.sink);
  silent : g.O.Sink.faults l.sink ≡ g.O.Sink.faults l.initial.sink;
}

abbrev pub decreases-loop-r : goal.decreases-loop-r
decreases-loop-r g l = length l.records
