-- Memory ran out, a wrap has too many tasks, or what was worked out was written.
use Rattle.std.proofs.lemmas.Result.{err_from_is_err_and}
use Rattle.ff_single.proofs.Wholes.{Finished-cut, Finished-memory, Finished-over, Finished-written}
use Rattle.ff_single.proofs.whole.WholeWork.finish.Goals as goal

pub returns-in_err-solve-clause-ends : goal.returns-in_err-solve-clause-ends
returns-in_err-solve-clause-ends g c =
    let p = err_from_is_err_and c.from_residual.result c.from_residual.ensures.1 in
    let own = g.W.Solve.runs c.args.self.way in
    rw (p.1, p.2) (Finished-memory own c.args.self.records _)

pub returns-in-Over-clause-ends : goal.returns-in-Over-clause-ends
returns-in-Over-clause-ends g c =
    let own = g.W.Solve.runs c.args.self.way in
    Finished-over own c.args.self.records _ c.in_ok-solve.ensures _ c.in-Over.is

pub returns-in_err-write_records-in-Done-clause-ends : goal.returns-in_err-write_records-in-Done-clause-ends
returns-in_err-write_records-in-Done-clause-ends g c =
    let p = err_from_is_err_and c.from_residual-in_err-write_records-in-Done.result c.from_residual-in_err-write_records-in-Done.ensures.1 in
    let own = g.W.Solve.runs c.args.self.way in
    rw (p.1, p.2)
    (Finished-cut own c.args.self.records _ c.in_ok-solve.ensures c.in_err-write_records-in-Done.field-0.0 c.in-Done.sent c.in-Done.rejected c.in-Done.kept _ _ c.in-Done.is
    c.in_err-write_records-in-Done.ensures.some)

pub returns-in_ok-write_records-in-Done-clause-ends : goal.returns-in_ok-write_records-in-Done-clause-ends
returns-in_ok-write_records-in-Done-clause-ends g c =
    let own = g.W.Solve.runs c.args.self.way in
    Finished-written own c.args.self.records _ c.in_ok-solve.ensures (record { rejected = c.in-Done.rejected; kept = c.in-Done.kept }) c.in-Done.sent _ _ c.in-Done.is
    c.in_ok-write_records-in-Done.ensures.all
