-- All was read, or the reading stopped.
use Rattle.std.proofs.Common.{[], subst}
use Rattle.std.proofs.lemmas.Result.{err_from_is_err_and}
use Rattle.ff_rec.specs.Reading.{Reading}
use Rattle.ff_numbers.specs.Reads.{Reads, Stops}
use Rattle.ff_numbers.proofs.Readings.{Comes-last, Comes-stops, IsRead-all, start}
use Rattle.ff_numbers.proofs.reading.read_numbers.Goals as goal

pub returns-in_err-read_pieces-clause-fault : goal.returns-in_err-read_pieces-clause-fault
returns-in_err-read_pieces-clause-fault g c =
    let p = err_from_is_err_and c.from_residual-in_err-read_pieces.result c.from_residual-in_err-read_pieces.ensures.1 in
    let r = c.read_pieces in
    let l = g.I.Source.left c.args.source.now in
    let k = g.I.Source.left r.new.source in
    let ended = g.I.Source.ended r.new.source in
    let fault = c.in_err-read_pieces.field-0.0 in
    let stops : Stops fault start [] l k ended = subst (λ ns. Stops fault start ns l k ended) c.new-numbers.ensures
    (subst (λ (q : Reading). Stops fault q c.new-numbers.result l k ended) c.in_ok-room.ensures.reader c.in_err-read_pieces.ensures.fault) in
    rw (p.1, p.2) (Comes-stops c.reading_is_cutting.ensures l k fault ended stops)

pub returns-in_err-add_last-clause-fault : goal.returns-in_err-add_last-clause-fault
returns-in_err-add_last-clause-fault g c =
    let p = err_from_is_err_and c.from_residual-in_err-add_last.result c.from_residual-in_err-add_last.ensures.1 in
    let r = c.read_pieces in
    let l = g.I.Source.left c.args.source.now in
    let k = g.I.Source.left r.new.source in
    let so_far : Reads start [] r.new.reader r.new.numbers l k = subst (λ ns. Reads start ns r.new.reader r.new.numbers l k) c.new-numbers.ensures
    (subst (λ (q : Reading). Reads q c.new-numbers.result r.new.reader r.new.numbers l k) c.in_ok-room.ensures.reader c.in_ok-read_pieces.ensures.ok) in
    rw (p.1, p.2)
    (Comes-last c.reading_is_cutting.ensures l k r.new.reader r.new.numbers so_far (g.I.Source.ended r.new.source) c.in_ok-read_pieces.ensures.is_end
    c.in_err-add_last.field-0.0 c.in_err-add_last.ensures.fault)

pub returns-clause-read : goal.returns-clause-read
returns-clause-read g c =
    let r = c.read_pieces in
    let l = g.I.Source.left c.args.source.now in
    let k = g.I.Source.left r.new.source in
    let so_far : Reads start [] r.new.reader r.new.numbers l k = subst (λ ns. Reads start ns r.new.reader r.new.numbers l k) c.new-numbers.ensures
    (subst (λ (q : Reading). Reads q c.new-numbers.result r.new.reader r.new.numbers l k) c.in_ok-room.ensures.reader c.in_ok-read_pieces.ensures.ok) in
    IsRead-all c.reading_is_cutting.ensures l k r.new.reader r.new.numbers so_far (g.I.Source.ended r.new.source) c.in_ok-read_pieces.ensures.is_end
    c.add_last.new.numbers c.in_ok-read_pieces.ensures.going c.in_ok-read_pieces.ensures.at_end c.in_ok-add_last.ensures.ok
