use Rattle.std.proofs.Common.{◌≡◌, length}
use Rattle.ff_stream.specs.Reads.{Hands}
use Rattle.ff_stream.proofs.piece.hand_all.Given as goal

-- how many of the records were handed over
abbrev pub invariant-loop-r : goal.invariant-loop-r
invariant-loop-r g l = record {
  hands : Hands g.W.Intake.stands l.initial.work l.initial.queue.items l.work l.queue.items (g.O.Sink.taken l.initial.sink) (g.O.Sink.taken l.sink);
  silent : g.O.Sink.faults l.sink ≡ g.O.Sink.faults l.initial.sink;
}

abbrev pub decreases-loop-r : goal.decreases-loop-r
decreases-loop-r g l = length l.queue.items
