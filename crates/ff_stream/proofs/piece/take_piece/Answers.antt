-- A part more of the piece was taken, or the rest was passed over.
use Rattle.std.proofs.Common.{[], Some, length, length-append, refl, ap, ◌∙◌, subst, ◌++◌, arith}
use Rattle.std.specs.Option.{option_map}
use Rattle.std.proofs.lemmas.Result.{err_from_is_err_and}
use Rattle.ff_rec.specs.declared.fault.FeedFault.TheVariants.{Line as Passed}
use Rattle.ff_rec.specs.Reading.{given}
use Rattle.ff_stream.specs.Reads.{HasTaken}
use Rattle.ff_stream.specs.declared.fault.Halt.TheVariants.{NoMemory}
use Rattle.ff_stream.proofs.Goings.{Goes-drops, Halts-memory}
use Rattle.ff_stream.proofs.Readings.{Consumes-all, Consumes-part, Goes-stopped, Goes-whole, Halts-part, HasTaken-after, HasTaken-stopped, Reads-piece, ReadsSome-piece}
use Rattle.ff_stream.proofs.piece.take_piece.Goals as goal

pub returns-in_err-pass_over-clause-err : goal.returns-in_err-pass_over-clause-err
returns-in_err-pass_over-clause-err g c =
    let p = err_from_is_err_and c.from_residual.result c.from_residual.ensures.1 in
    let rest = c.loop-rest.rest.now in
    rw (p.1, p.2)
    (Halts-part g.W.Intake.stands g.W.Intake.halted c.args.work.now c.loop-rest.work c.args.reader.now NoMemory c.args.piece.now [] _ _
    (ReadsSome-piece g.W.Intake.stands g.W.Intake.halted c.args.work.now c.loop-rest.work c.loop-rest.work c.args.reader.now c.loop-rest.reader NoMemory (Some c.args.piece.now) (Some rest) (Some []) _ _ _ rest
    c.loop-rest.invariant.reads (Consumes-all rest) (Halts-memory g.W.Intake.stands g.W.Intake.halted c.loop-rest.work (given c.loop-rest.reader rest) _)))

pub returns-then-drops-clause-ok : goal.returns-then-drops-clause-ok
returns-then-drops-clause-ok g c =
    let rest = c.loop-rest.rest.now in
    Goes-whole g.W.Intake.stands c.args.work.now c.loop-rest.work c.args.reader.now c.pass_over.new.reader c.args.piece.now [] _ _
    (Reads-piece g.W.Intake.stands c.args.work.now c.loop-rest.work c.loop-rest.work c.args.reader.now c.loop-rest.reader c.pass_over.new.reader
    (Some c.args.piece.now) (Some rest) (Some []) _ _ _ rest c.loop-rest.invariant.reads (Consumes-all rest) c.in_ok-pass_over.ensures.read.state
    (Goes-drops g.W.Intake.stands c.loop-rest.work (given c.loop-rest.reader rest) _ (c.drops.ensures c.if-drops.true))) refl

pub returns-then-drops-clause-read : goal.returns-then-drops-clause-read
returns-then-drops-clause-read g c =
    HasTaken-after c.args.reader.now c.loop-rest.reader c.pass_over.new.reader c.loop-rest.invariant.reads.got c.args.piece.now c.loop-rest.rest.now _
    c.loop-rest.invariant.reads.reads c.loop-rest.invariant.reads.reader c.loop-rest.invariant.taken c.loop-rest.invariant.limit c.in_ok-pass_over.ensures.read

pub returns-in_err-fault-clause-err : goal.returns-in_err-fault-clause-err
returns-in_err-fault-clause-err g c =
    let p = err_from_is_err_and c.from_residual-in_err-fault.result c.from_residual-in_err-fault.ensures.1 in
    let part = c.split_at.result.0.now in
    let behind = c.split_at.result.1.now in
    let read = Consumes-part c.loop-rest.rest.now part behind c.min.result c.split_at.ensures.front c.split_at.ensures.back in
    rw (p.1, p.2)
    (Halts-part g.W.Intake.stands g.W.Intake.halted c.args.work.now c.take_part.new.work c.args.reader.now c.in_err-fault.field-0.0 c.args.piece.now behind _ _
    (ReadsSome-piece g.W.Intake.stands g.W.Intake.halted c.args.work.now c.loop-rest.work c.take_part.new.work c.args.reader.now c.loop-rest.reader c.in_err-fault.field-0.0
    (Some c.args.piece.now) (Some c.loop-rest.rest.now) (Some behind) _ _ _ part c.loop-rest.invariant.reads read c.in_err-fault.ensures.err))

pub returns-in-Some-clause-ok : goal.returns-in-Some-clause-ok
returns-in-Some-clause-ok g c =
    let part = c.split_at.result.0.now in
    let behind = c.split_at.result.1.now in
    let read = Consumes-part c.loop-rest.rest.now part behind c.min.result c.split_at.ensures.front c.split_at.ensures.back in
    Goes-stopped g.W.Intake.stands c.args.work.now c.take_part.new.work c.args.reader.now c.take_part.new.reader c.args.piece.now behind _ _ (Passed c.in-Some.fault)
    (Reads-piece g.W.Intake.stands c.args.work.now c.loop-rest.work c.take_part.new.work c.args.reader.now c.loop-rest.reader c.take_part.new.reader
    (Some c.args.piece.now) (Some c.loop-rest.rest.now) (Some behind) _ _ _ part c.loop-rest.invariant.reads read c.in_ok-fault.ensures.read.state c.in_ok-fault.ensures.ok)
    (c.in_ok-fault.ensures.read.refusal ∙ ap (option_map Passed) c.in-Some.is)

pub returns-in-Some-clause-read : goal.returns-in-Some-clause-read
returns-in-Some-clause-read g c =
    let part = c.split_at.result.0.now in
    let behind = c.split_at.result.1.now in
    let read = Consumes-part c.loop-rest.rest.now part behind c.min.result c.split_at.ensures.front c.split_at.ensures.back in
    let got = c.loop-rest.invariant.reads.got in
    HasTaken-stopped c.args.reader.now c.loop-rest.reader c.take_part.new.reader got c.args.piece.now part behind c.in-Some.fault
    (c.loop-rest.invariant.reads.reads ∙ ap (λ l. got ++ l) read) c.loop-rest.invariant.reads.reader
    (subst (HasTaken c.loop-rest.reader c.take_part.new.reader part) c.in-Some.is c.in_ok-fault.ensures.read)

pub loop-rest-preserved : goal.loop-rest-preserved
loop-rest-preserved g c =
    let part = c.split_at.result.0.now in
    let behind = c.split_at.result.1.now in
    let read = Consumes-part c.loop-rest.rest.now part behind c.min.result c.split_at.ensures.front c.split_at.ensures.back in
    let took = subst (HasTaken c.loop-rest.reader c.take_part.new.reader part) c.in_default.is c.in_ok-fault.ensures.read in
    record {
      reads = Reads-piece g.W.Intake.stands c.args.work.now c.loop-rest.work c.take_part.new.work c.args.reader.now c.loop-rest.reader c.take_part.new.reader
          (Some c.args.piece.now) (Some c.loop-rest.rest.now) (Some behind) _ _ _ part c.loop-rest.invariant.reads read took.state c.in_ok-fault.ensures.ok;
      going = took.refusal;
      used = c.in_ok-fault.ensures.used;
      taken = omega (arith, took.taken refl, c.loop-rest.invariant.taken, ap length read, length-append part behind);
      room = λ short. omega (arith, took.room refl, c.loop-rest.invariant.limit);
      limit = c.take_part.ensures.limit ∙ c.loop-rest.invariant.limit;
      silent = c.in_ok-fault.ensures.counts ∙ c.loop-rest.invariant.silent;
    }
