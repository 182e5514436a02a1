-- It was given up, broke off at its end, or came to its end.
use Rattle.std.proofs.lemmas.Result.{err_from_is_err_and}
use Rattle.ff_stream.specs.Streams.{streams}
use Rattle.ff_stream.proofs.Endings.{Ran-broken, Ran-ended, Ran-given_up}
use Rattle.ff_stream.proofs.Goings.{IsOpen-left}
use Rattle.ff_stream.proofs.run.run_work.Goals as goal

pub returns-in-Err-clause-run : goal.returns-in-Err-clause-run
returns-in-Err-clause-run g c =
    let s = streams g.I.Source.left g.I.Source.ended g.I.Source.faults g.O.Sink.taken c.args.source.now c.take_stream.new.source c.args.sink.now c.take_stream.new.sink in
    let work = c.take_stream.new.work in
    rw c.into.ensures
    (λ j is at. let came = c.in-Err.ensures.err j is at in
    Ran-given_up g.W.Intake.stands g.W.Intake.halted j c.in-Err.halt work s came
    (IsOpen-left g.W.Intake.stands g.W.Intake.halted work c.give_up.ensures.stood c.give_up.ensures.broke j c.in-Err.halt came.first came.front came.left))

pub returns-in_err-report-clause-run : goal.returns-in_err-report-clause-run
returns-in_err-report-clause-run g c =
    let p = err_from_is_err_and c.from_residual.result c.from_residual.ensures.1 in
    let s = streams g.I.Source.left g.I.Source.ended g.I.Source.faults g.O.Sink.taken c.args.source.now c.take_stream.new.source c.args.sink.now c.take_stream.new.sink in
    rw (p.1, p.2)
    (λ j is at. let taken = c.in-Ok.ensures.ok j is at in
    Ran-broken g.W.Intake.stands j c.take_stream.new.work c.in-Ok.stop s taken _ c.in-Ok.ensures.input_faults c.in_err-report.field-0.0
    (c.in_err-report.ensures.ends j _ taken.front taken.stands_so))

pub returns-clause-run : goal.returns-clause-run
returns-clause-run g c =
    let s = streams g.I.Source.left g.I.Source.ended g.I.Source.faults g.O.Sink.taken c.args.source.now c.take_stream.new.source c.args.sink.now c.take_stream.new.sink in
    λ j is at. let taken = c.in-Ok.ensures.ok j is at in
    Ran-ended g.W.Intake.stands j c.take_stream.new.work c.in-Ok.stop s taken _ c.in_ok-report.report (c.in_ok-report.ensures.ends j _ taken.front taken.stands_so)
