-- A part of what is held was written.
use Rattle.std.proofs.lemmas.Result.{err_from_is_err_and}
use Rattle.ff_stream.specs.declared.fault.Halt.TheVariants.{Write}
use Rattle.ff_stream.proofs.Flowings.{Halts-paused}
use Rattle.ff_stream.proofs.flow.FlowIntake.pause.Goals as goal

pub returns-in_err-write-clause-err : goal.returns-in_err-write-clause-err
returns-in_err-write-clause-err g c =
    let p = err_from_is_err_and c.from_residual.result c.from_residual.ensures.1 in
    rw (p.1, p.2) (Halts-paused g.M.Node.does c.args.self.now _ Write _ _ c.in_err-write.ensures.some)
