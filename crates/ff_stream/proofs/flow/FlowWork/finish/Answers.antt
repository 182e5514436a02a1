-- It broke off before or while the rest was written, or came to its end.
use Rattle.std.proofs.lemmas.Result.{err_from_is_err_and}
use Rattle.ff_stream.proofs.Flowings.{Finishes-cut, Finishes-ended, Finishes-memory}
use Rattle.ff_stream.proofs.flow.FlowWork.finish.Goals as goal

pub returns-in_err-end-clause-ends : goal.returns-in_err-end-clause-ends
returns-in_err-end-clause-ends g c =
    let p = err_from_is_err_and c.from_residual.result c.from_residual.ensures.1 in
    rw (p.1, p.2) (Finishes-memory g.M.Node.does c.args.self _)

pub returns-in_err-write-clause-ends : goal.returns-in_err-write-clause-ends
returns-in_err-write-clause-ends g c =
    let p = err_from_is_err_and c.from_residual-in_err-write.result c.from_residual-in_err-write.ensures.1 in
    rw (p.1, p.2) (Finishes-cut g.M.Node.does c.args.self c.end.new.flow _ _ c.in_ok-end.ensures.text c.in_err-write.ensures.some)

pub returns-clause-ends : goal.returns-clause-ends
returns-clause-ends g c =
    Finishes-ended g.M.Node.does c.args.self c.end.new.flow _ _ _ c.report_of.result c.in_ok-end.ensures.text c.in_ok-end.ensures.rejects
    c.in_ok-write.ensures.all c.in_ok-write.ensures.empty c.report_of.ensures.number c.report_of.ensures.records
