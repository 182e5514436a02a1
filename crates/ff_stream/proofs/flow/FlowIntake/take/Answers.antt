-- The node took the record, and what is held was written as far as it was time to.
use Rattle.std.proofs.Common.{refl}
use Rattle.std.proofs.lemmas.Result.{err_from_is_err_and}
use Rattle.ff_stream.specs.declared.fault.Halt.TheVariants.{Write}
use Rattle.ff_stream.proofs.Flowings.{Goes-handed, Halts-handed, Halts-starved}
use Rattle.ff_stream.proofs.flow.FlowIntake.take.Goals as goal

pub returns-in_err-hand-clause-err : goal.returns-in_err-hand-clause-err
returns-in_err-hand-clause-err g c =
    let p = err_from_is_err_and c.from_residual.result c.from_residual.ensures.1 in
    rw (p.1, p.2) (Halts-starved g.M.Node.does c.args.self.now _ c.args.r _)

pub returns-in_err-write_full-clause-err : goal.returns-in_err-write_full-clause-err
returns-in_err-write_full-clause-err g c =
    let p = err_from_is_err_and c.from_residual-in_err-write_full.result c.from_residual-in_err-write_full.ensures.1 in
    rw (p.1, p.2) (Halts-handed g.M.Node.does c.args.self.now c.hand.new.flow _ c.args.r Write _ _ c.in_ok-hand.ensures.sends c.in_err-write_full.ensures.some)

pub returns-clause-ok : goal.returns-clause-ok
returns-clause-ok g c =
    Goes-handed g.M.Node.does c.args.self.now c.hand.new.flow _ c.args.r _ _ c.in_ok-hand.ensures.sends c.in_ok-hand.ensures.rejects c.in_ok-write_full.ensures.all refl refl refl
