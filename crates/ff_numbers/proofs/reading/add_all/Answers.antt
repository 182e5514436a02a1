-- A record more was added, or something is wrong with it.
use Rattle.std.proofs.lemmas.Result.{err_from_is_err_and}
use Rattle.ff_numbers.proofs.Adding.{IsDataFault-at}
use Rattle.ff_numbers.proofs.reading.add_all.Goals as goal

pub returns-in_err-add-clause-fault : goal.returns-in_err-add-clause-fault
returns-in_err-add-clause-fault c =
    let p = err_from_is_err_and c.from_residual.result c.from_residual.ensures.1 in
    rw (p.1, p.2)
    (IsDataFault-at c.args.records.now c.loop-line.line-index c.line-item.result c.args.numbers.now c.loop-line.numbers c.in_err-add.field-0.0
    c.loop-line-test.true c.line-item.is c.loop-line.invariant c.in_err-add.ensures.fault)
