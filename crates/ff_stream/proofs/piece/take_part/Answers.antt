-- Memory ran out before a record was handed over.
use Rattle.std.proofs.lemmas.Result.{err_from_is_err_and}
use Rattle.ff_rec.specs.Reading.{given}
use Rattle.ff_stream.proofs.Goings.{Halts-memory}
use Rattle.ff_stream.proofs.piece.take_part.Goals as goal

pub returns-in_err-fault-clause-err : goal.returns-in_err-fault-clause-err
returns-in_err-fault-clause-err g c =
    let p = err_from_is_err_and c.from_residual.result c.from_residual.ensures.1 in
    rw (p.1, p.2) (Halts-memory g.W.Intake.stands g.W.Intake.halted c.args.work.now (given c.args.reader.now c.args.part.now) _)
