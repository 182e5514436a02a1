use Rattle.std.proofs.Common.{◌≡◌}
use Rattle.ff_engine.specs.Callers.{Moves, SameRings}
use Rattle.ff_engine.specs.Seen.{caller_of}
use Rattle.ff_engine.proofs.caller.Caller.show_till_still.Given as goal

-- what came so far
abbrev pub invariant-loop : goal.invariant-loop
invariant-loop g l = record {
  put : (caller_of l.self).put ≡ (caller_of l.initial.self).put;
  moves : Moves (caller_of l.initial.self) (caller_of l.self) (g.O.Sink.taken l.initial.sink) (g.O.Sink.taken l.sink);
  rings : SameRings (caller_of l.initial.self) (caller_of l.self);
  counts : g.O.Sink.faults l.sink ≡ g.O.Sink.faults l.initial.sink;
}
