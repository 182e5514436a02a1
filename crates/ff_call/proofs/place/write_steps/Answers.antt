-- One step more, behind its dot.
use Rattle.std.proofs.Common.{List, ℕ, ◌<◌, ◌+◌, ◌++◌, length, drop, sym, subst, arith}
use Rattle.std.specs.Prelude.{Ok, Err}
use Rattle.std.proofs.lemmas.Result.{err_from_is_err_and}
use Rattle.ff_io.specs.declared.outside.Failed.{Failed}
use Rattle.ff_call.specs.Messages.{Writes, steps_text}
use Rattle.ff_call.proofs.PlaceTexts.{step_text, steps_text-next}
use Rattle.ff_call.proofs.Saying.{Writes-then, Writes-stopped}
use Rattle.ff_call.proofs.place.write_steps.Goals as goal

pub loop-k-preserved : goal.loop-k-preserved
loop-k-preserved g c =
    let path = c.args.path.now in
    let i = c.loop-k.invariant in
    let a = c.args.sink.now in
    let b = c.loop-k.sink in
    let d = c.write_number.new.sink in
    let within : c.loop-k.k < length path = omega arith in
    record {
      put = i.put ++ step_text c.child.result;
      wrote = Writes-then (g.E.Sink.taken a) (g.E.Sink.taken b) (g.E.Sink.taken d) (g.E.Sink.faults a) (g.E.Sink.faults b) (g.E.Sink.faults d)
          i.put (step_text c.child.result) tt (Ok tt) i.wrote c.in_ok-write_number.ensures;
      splits = steps_text-next path c.loop-k.k c.child.result (steps_text (drop 1 path)) i.put within c.child.ensures i.splits;
    }

pub returns-in_err-write_number : goal.returns-in_err-write_number
returns-in_err-write_number g c =
    let path = c.args.path.now in
    let i = c.loop-k.invariant in
    let a = c.args.sink.now in
    let b = c.loop-k.sink in
    let d = c.write_number.new.sink in
    let e = c.in_err-write_number.field-0.0 in
    let p = err_from_is_err_and c.from_residual.result c.from_residual.ensures.1 in
    let within : c.loop-k.k < length path = omega arith in
    let front : Writes {A = Unit {0}} {E = Failed} (g.E.Sink.taken a) (g.E.Sink.taken d) (g.E.Sink.faults a) (g.E.Sink.faults d) (i.put ++ step_text c.child.result) (Err e) =
    Writes-then (g.E.Sink.taken a) (g.E.Sink.taken b) (g.E.Sink.taken d) (g.E.Sink.faults a) (g.E.Sink.faults b) (g.E.Sink.faults d)
    i.put (step_text c.child.result) tt (Err e) i.wrote c.in_err-write_number.ensures in
    subst (λ (bytes : List ℕ). Writes (g.E.Sink.taken a) (g.E.Sink.taken d) (g.E.Sink.faults a) (g.E.Sink.faults d) bytes c.from_residual.result)
    (sym (steps_text-next path c.loop-k.k c.child.result (steps_text (drop 1 path)) i.put within c.child.ensures i.splits))
    (Writes-stopped (g.E.Sink.taken a) (g.E.Sink.taken d) (g.E.Sink.faults a) (g.E.Sink.faults d)
    (i.put ++ step_text c.child.result) (steps_text (drop (c.loop-k.k + 1) path)) c.from_residual.result e p.0 p.1 front)
