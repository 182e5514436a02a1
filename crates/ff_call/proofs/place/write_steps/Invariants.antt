use Rattle.std.proofs.Common.{◌≡◌, ℕ, ◌++◌, List, drop}
use Rattle.std.specs.Prelude.{Ok}
use Rattle.ff_io.specs.declared.outside.Failed.{Failed}
use Rattle.ff_call.specs.Messages.{Writes, steps_text}
use Rattle.ff_call.proofs.place.write_steps.Given as goal

-- what was written so far, and the text of the steps that are left, make up the text of all
abbrev pub invariant-loop-k : goal.invariant-loop-k
invariant-loop-k g l = record {
  put : List ℕ;
  wrote : Writes {A = Unit {0}} {E = Failed} (g.E.Sink.taken l.initial.sink) (g.E.Sink.taken l.sink) (g.E.Sink.faults l.initial.sink) (g.E.Sink.faults l.sink) put (Ok tt);
  splits : steps_text (drop 1 l.path) ≡ put ++ steps_text (drop l.k l.path);
}
