-- It came to a halt while it read or at the last line, or no more was to be read.
use Rattle.std.proofs.Common.{sym, ap, ◌∙◌}
use Rattle.std.proofs.lemmas.Result.{err_from_is_err_and}
use Rattle.ff_rec.specs.Reading.{opening}
use Rattle.ff_net.specs.Versions.{line_bytes, input_bytes}
use Rattle.ff_stream.specs.Streams.{streams}
use Rattle.ff_stream.proofs.Takings.{IsHalted-last, IsHalted-some, IsTaken-goes}
use Rattle.ff_stream.proofs.taking.take_stream.Goals as goal

pub returns-in_err-stop-clause-err : goal.returns-in_err-stop-clause-err
returns-in_err-stop-clause-err g c =
    let p = err_from_is_err_and c.from_residual-in_err-stop.result c.from_residual-in_err-stop.ensures.1 in
    let s = streams g.I.Source.left g.I.Source.ended g.I.Source.faults g.O.Sink.taken c.args.source.now c.take_all.new.source c.args.sink.now c.take_all.new.sink in
    rw (p.1, p.2)
    (λ j is at. IsHalted-some g.W.Intake.stands c.reading_is_cutting.ensures c.args.work.now j at s g.W.Intake.halted c.take_all.new.work c.in_err-stop.field-0.0
    c.in_ok-room.reader (c.in_ok-room.ensures.reader ∙ ap (λ v. opening (line_bytes v) input_bytes) (sym is)) c.in_err-stop.ensures.err)

pub returns-in_err-take_last-clause-err : goal.returns-in_err-take_last-clause-err
returns-in_err-take_last-clause-err g c =
    let p = err_from_is_err_and c.from_residual-in_err-take_last.result c.from_residual-in_err-take_last.ensures.1 in
    let s = streams g.I.Source.left g.I.Source.ended g.I.Source.faults g.O.Sink.taken c.args.source.now c.take_all.new.source c.args.sink.now c.take_last.new.sink in
    rw (p.1, p.2)
    (λ j is at. IsHalted-last g.W.Intake.stands c.reading_is_cutting.ensures c.args.work.now j at s c.take_all.new.work
    c.in_ok-room.reader c.take_all.new.reader (c.in_ok-room.ensures.reader ∙ ap (λ v. opening (line_bytes v) input_bytes) (sym is))
    c.in_ok-stop.stop _ c.in_ok-stop.ensures.ok c.in_ok-stop.ensures.stop g.W.Intake.halted c.take_last.new.work c.in_err-take_last.field-0.0 c.in_err-take_last.ensures.err)

pub returns-clause-ok : goal.returns-clause-ok
returns-clause-ok g c =
    let s = streams g.I.Source.left g.I.Source.ended g.I.Source.faults g.O.Sink.taken c.args.source.now c.take_all.new.source c.args.sink.now c.take_last.new.sink in
    λ j is at. IsTaken-goes g.W.Intake.stands c.reading_is_cutting.ensures c.args.work.now j at s c.take_all.new.work
    c.in_ok-room.reader c.take_all.new.reader (c.in_ok-room.ensures.reader ∙ ap (λ v. opening (line_bytes v) input_bytes) (sym is))
    c.in_ok-stop.stop _ c.in_ok-stop.ensures.ok c.in_ok-stop.ensures.stop c.take_last.new.work c.in_ok-take_last.ensures.ok
