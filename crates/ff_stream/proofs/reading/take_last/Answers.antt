-- Memory ran out before the last record was there, or it was handed over.
use Rattle.std.proofs.lemmas.Result.{err_from_is_err_and}
use Rattle.ff_stream.specs.Reads.{last_of}
use Rattle.ff_stream.proofs.Goings.{Halts-memory}
use Rattle.ff_stream.proofs.reading.take_last.Goals as goal

pub returns-in_err-finish-clause-err : goal.returns-in_err-finish-clause-err
returns-in_err-finish-clause-err g c =
    let p = err_from_is_err_and c.from_residual.result c.from_residual.ensures.1 in
    rw (p.1, p.2) (Halts-memory g.W.Intake.stands g.W.Intake.halted c.args.work.now (last_of c.args.stop c.args.reader.line) _)
