-- A piece more was read, or the reading stopped.
use Rattle.std.proofs.Common.{take, option_map, length, ap, ◌∙◌, subst}
use Rattle.std.proofs.lemmas.Result.{err_from_is_err_and}
use Rattle.ff_rec.specs.declared.fault.FeedFault.TheVariants.{Line as Passed}
use Rattle.ff_numbers.specs.Reads.{Adds, IsDataFault}
use Rattle.ff_numbers.proofs.Readings.{Reads-piece, Stops-limit, Stops-memory, Stops-read, Stops-wrong, is_end-some}
use Rattle.ff_numbers.proofs.reading.read_pieces.Goals as goal

pub returns-in_default-clause-fault : goal.returns-in_default-clause-fault
returns-in_default-clause-fault g c =
    Stops-read c.args.reader.now c.pieces.reader c.args.numbers.now c.pieces.numbers _ _ _ _
    c.pieces.invariant.reads c.pieces.invariant.going c.in_default.ensures.bytes c.in_default.ensures.ended

pub returns-in_err-limit-clause-fault : goal.returns-in_err-limit-clause-fault
returns-in_err-limit-clause-fault g c =
    let p = err_from_is_err_and c.from_residual.result c.from_residual.ensures.1 in
    rw (p.1, p.2)
    (Stops-memory c.args.reader.now c.pieces.reader c.args.numbers.now c.pieces.numbers _ _ _ c.pieces.invariant.reads
    (take c.in-Ok.got c.read.new.buf) c.in-Ok.ensures.bytes.0 (g.I.Source.ended c.read.new.self))

pub returns-in_err-add_all-clause-fault : goal.returns-in_err-add_all-clause-fault
returns-in_err-add_all-clause-fault g c =
    let p = err_from_is_err_and c.from_residual-in_err-add_all.result c.from_residual-in_err-add_all.ensures.1 in
    let fault = c.in_err-add_all.field-0.0 in
    rw (p.1, p.2)
    (Stops-wrong c.args.reader.now c.pieces.reader c.args.numbers.now c.pieces.numbers _ _ _ c.pieces.invariant.reads
    (take c.in-Ok.got c.read.new.buf) c.in-Ok.ensures.bytes.0 fault _ (c.in-Ok.ensures.ended ∙ is_end-some c.in-Ok.got c.if-got-eq0.false)
    (subst (λ xs. IsDataFault (length c.pieces.numbers) xs fault) (c.deref.ensures.value ∙ c.in_ok-limit.ensures.records) c.in_err-add_all.ensures.fault))

pub returns-in-Some-clause-fault : goal.returns-in-Some-clause-fault
returns-in-Some-clause-fault g c =
    let adds = subst (λ xs. Adds xs c.pieces.numbers c.add_all.new.numbers) (c.deref.ensures.value ∙ c.in_ok-limit.ensures.records) c.in_ok-add_all.ensures.ok in
    Stops-limit c.args.reader.now c.cut.new.reader c.args.numbers.now c.add_all.new.numbers _ _ c.in-Some.fault _
    (Reads-piece c.args.reader.now c.pieces.reader c.args.numbers.now c.pieces.numbers _ _ _ c.pieces.invariant.reads
    (take c.in-Ok.got c.read.new.buf) c.in-Ok.ensures.bytes.0 c.cut.new.reader c.add_all.new.numbers c.in_ok-limit.ensures.state adds)
    (c.in_ok-limit.ensures.refusal ∙ ap (option_map Passed) c.in-Some.is)
    (c.in-Ok.ensures.ended ∙ is_end-some c.in-Ok.got c.if-got-eq0.false)

pub pieces-preserved : goal.pieces-preserved
pieces-preserved g c =
    let adds = subst (λ xs. Adds xs c.pieces.numbers c.add_all.new.numbers) (c.deref.ensures.value ∙ c.in_ok-limit.ensures.records) c.in_ok-add_all.ensures.ok in
    record {
      reads = Reads-piece c.args.reader.now c.pieces.reader c.args.numbers.now c.pieces.numbers _ _ _ c.pieces.invariant.reads
          (take c.in-Ok.got c.read.new.buf) c.in-Ok.ensures.bytes.0 c.cut.new.reader c.add_all.new.numbers c.in_ok-limit.ensures.state adds;
      going = c.in_ok-limit.ensures.refusal ∙ ap (option_map Passed) c.in_default-limit.is;
      used = c.clear.ensures.items;
      quiet = c.in-Ok.ensures.counts ∙ c.pieces.invariant.quiet;
    }
