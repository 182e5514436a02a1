use Rattle.std.proofs.Common.{◌≡◌, ◌-◌, None, []}
use Rattle.ff_stream.specs.Reads.{Reads}
use Rattle.ff_stream.proofs.reading.take_all.Given as goal

-- what was read so far, and what came of it
abbrev pub invariant-pieces : goal.invariant-pieces
invariant-pieces g l = record {
  reads : Reads g.W.Intake.stands l.initial.work l.initial.reader l.work l.reader (g.I.Source.left l.initial.source) (g.I.Source.left l.source)
      (g.O.Sink.taken l.initial.sink) (g.O.Sink.taken l.sink);
  going : l.reader.fault ≡ None;
  used : l.queue.items ≡ [];
  quiet : g.I.Source.faults l.source ≡ g.I.Source.faults l.initial.source;
  silent : g.O.Sink.faults l.sink ≡ g.O.Sink.faults l.initial.sink;
}

-- each piece takes from what an input may have
abbrev pub decreases-pieces : goal.decreases-pieces
decreases-pieces g l = l.reader.input_limit - l.reader.taken
