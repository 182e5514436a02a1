-- The message goes in three pieces.
use Rattle.std.proofs.Common.{◌++◌, refl}
use Rattle.std.specs.Fmt.{decimal}
use Rattle.std.specs.Prelude.{codes, Ok, Err}
use Rattle.std.proofs.lemmas.Result.{err_from_is_err_and}
use Rattle.ff_io.specs.declared.outside.Failed.{Failed}
use Rattle.ff_call.specs.Messages.{Writes, place_text}
use Rattle.ff_call.proofs.Saying.{Writes-then, Writes-stopped}
use Rattle.ff_call.proofs.place.write_rule.Goals as goal

pub returns-in_err-write_number : goal.returns-in_err-write_number
returns-in_err-write_number g c =
    let a = c.args.sink.now in
    let b = c.write_number.new.sink in
    let rule = codes "ffrun: rule N" ++ decimal c.args.fault.now.rule ++ codes " at " in
    let place = place_text c.args.fault.now.path in
    let e = c.in_err-write_number.field-0.0 in
    let p = err_from_is_err_and c.from_residual.result c.from_residual.ensures.1 in
    let front : Writes {A = Unit {0}} {E = Failed} (g.E.Sink.taken a) (g.E.Sink.taken b) (g.E.Sink.faults a) (g.E.Sink.faults b) (rule ++ place) (Err e) =
    Writes-stopped (g.E.Sink.taken a) (g.E.Sink.taken b) (g.E.Sink.faults a) (g.E.Sink.faults b) rule place (Err e) e e refl c.in_err-write_number.ensures in
    Writes-stopped (g.E.Sink.taken a) (g.E.Sink.taken b) (g.E.Sink.faults a) (g.E.Sink.faults b) (rule ++ place) (codes "\n") c.from_residual.result e p.0 p.1 front

pub returns-in_err-write_place : goal.returns-in_err-write_place
returns-in_err-write_place g c =
    let a = c.args.sink.now in
    let b = c.write_number.new.sink in
    let d = c.write_place.new.sink in
    let rule = codes "ffrun: rule N" ++ decimal c.args.fault.now.rule ++ codes " at " in
    let place = place_text c.args.fault.now.path in
    let e = c.in_err-write_place.field-0.0 in
    let out = c.from_residual-in_err-write_place in
    let p = err_from_is_err_and out.result out.ensures.1 in
    let front : Writes {A = Unit {0}} {E = Failed} (g.E.Sink.taken a) (g.E.Sink.taken d) (g.E.Sink.faults a) (g.E.Sink.faults d) (rule ++ place) (Err e) =
    Writes-then (g.E.Sink.taken a) (g.E.Sink.taken b) (g.E.Sink.taken d) (g.E.Sink.faults a) (g.E.Sink.faults b) (g.E.Sink.faults d) rule place c.in_ok-write_number.field-0 (Err e) c.in_ok-write_number.ensures c.in_err-write_place.ensures in
    Writes-stopped (g.E.Sink.taken a) (g.E.Sink.taken d) (g.E.Sink.faults a) (g.E.Sink.faults d) (rule ++ place) (codes "\n") out.result e p.0 p.1 front

pub returns : goal.returns
returns g c =
    let a = c.args.sink.now in
    let b = c.write_number.new.sink in
    let d = c.write_place.new.sink in
    let e = c.write_piece.new.sink in
    let rule = codes "ffrun: rule N" ++ decimal c.args.fault.now.rule ++ codes " at " in
    let place = place_text c.args.fault.now.path in
    let x = c.in_ok-write_place.field-0 in
    let front : Writes {A = Unit {0}} {E = Failed} (g.E.Sink.taken a) (g.E.Sink.taken d) (g.E.Sink.faults a) (g.E.Sink.faults d) (rule ++ place) (Ok x) =
    Writes-then (g.E.Sink.taken a) (g.E.Sink.taken b) (g.E.Sink.taken d) (g.E.Sink.faults a) (g.E.Sink.faults b) (g.E.Sink.faults d) rule place c.in_ok-write_number.field-0 (Ok x) c.in_ok-write_number.ensures c.in_ok-write_place.ensures in
    Writes-then (g.E.Sink.taken a) (g.E.Sink.taken d) (g.E.Sink.taken e) (g.E.Sink.faults a) (g.E.Sink.faults d) (g.E.Sink.faults e) (rule ++ place) (codes "\n") x c.write_piece.result front c.write_piece.ensures
