-- A piece more was read, and what was held was written.
use Rattle.std.proofs.Common.{take, refl, ◌∙◌, subst}
use Rattle.std.proofs.lemmas.Result.{err_from_is_err_and}
use Rattle.ff_stream.specs.Reads.{HasTaken}
use Rattle.ff_stream.proofs.Readings.{Reads-none, Reads-paused, Reads-piece, ReadsSome-paused, ReadsSome-piece}
use Rattle.ff_stream.proofs.reading.take_all.Goals as goal

pub pieces-init : goal.pieces-init
pieces-init g c = record {
  reads = Reads-none g.W.Intake.stands c.args.work.now c.args.reader.now _ _;
  going = c.requires.reader;
  used = c.new-queue.ensures.items;
  quiet = refl;
  silent = refl;
}

pub returns-in_err-fault-clause-err : goal.returns-in_err-fault-clause-err
returns-in_err-fault-clause-err g c =
    let p = err_from_is_err_and c.from_residual.result c.from_residual.ensures.1 in
    rw (p.1, p.2)
    (ReadsSome-piece g.W.Intake.stands g.W.Intake.halted c.args.work.now c.pieces.work c.take_piece.new.work c.args.reader.now c.pieces.reader c.in_err-fault.field-0.0 _ _ _ _ _ _ (take c.in-Ok.got c.read.new.buf)
    c.pieces.invariant.reads c.in-Ok.ensures.bytes.0 c.in_err-fault.ensures.err)

pub returns-in-Some-clause-ok : goal.returns-in-Some-clause-ok
returns-in-Some-clause-ok g c =
    Reads-piece g.W.Intake.stands c.args.work.now c.pieces.work c.take_piece.new.work c.args.reader.now c.pieces.reader c.take_piece.new.reader _ _ _ _ _ _ (take c.in-Ok.got c.read.new.buf)
    c.pieces.invariant.reads c.in-Ok.ensures.bytes.0 c.in_ok-fault.ensures.read.state c.in_ok-fault.ensures.ok

pub pieces-preserved : goal.pieces-preserved
pieces-preserved g c =
    let piece = take c.in-Ok.got c.read.new.buf in
    let took = subst (HasTaken c.pieces.reader c.take_piece.new.reader piece) c.in_default-2.is c.in_ok-fault.ensures.read in
    record {
      reads = Reads-piece g.W.Intake.stands c.args.work.now c.pieces.work c.take_piece.new.work c.args.reader.now c.pieces.reader c.take_piece.new.reader _ _ _ _ _ _ piece
          c.pieces.invariant.reads c.in-Ok.ensures.bytes.0 took.state c.in_ok-fault.ensures.ok;
      going = took.refusal;
      used = c.in_ok-fault.ensures.used;
      quiet = c.in-Ok.ensures.counts ∙ c.pieces.invariant.quiet;
      silent = c.in_ok-fault.ensures.counts ∙ c.pieces.invariant.silent;
    }

pub pieces-preserved-in-Continue-branch-3 : goal.pieces-preserved-in-Continue-branch-3
pieces-preserved-in-Continue-branch-3 g c =
    let piece = take c.in-Ok.got c.read.new.buf in
    let took = subst (HasTaken c.pieces.reader c.take_piece.new.reader piece) c.in_default-2.is c.in_ok-fault.ensures.read in
    let so_far = Reads-piece g.W.Intake.stands c.args.work.now c.pieces.work c.take_piece.new.work c.args.reader.now c.pieces.reader c.take_piece.new.reader _ _ _ _ _ _ piece
    c.pieces.invariant.reads c.in-Ok.ensures.bytes.0 took.state c.in_ok-fault.ensures.ok in
    record {
      reads = Reads-paused g.W.Intake.stands c.args.work.now c.take_piece.new.work c.pause.new.self c.args.reader.now c.take_piece.new.reader _ _ _ _ _ so_far c.in_ok-pause.ensures.ok;
      going = took.refusal;
      used = c.in_ok-fault.ensures.used;
      quiet = c.in-Ok.ensures.counts ∙ c.pieces.invariant.quiet;
      silent = c.in_ok-pause.ensures.counts ∙ c.in_ok-fault.ensures.counts ∙ c.pieces.invariant.silent;
    }

pub returns-in_err-pause-clause-err : goal.returns-in_err-pause-clause-err
returns-in_err-pause-clause-err g c =
    let piece = take c.in-Ok.got c.read.new.buf in
    let so_far = Reads-piece g.W.Intake.stands c.args.work.now c.pieces.work c.take_piece.new.work c.args.reader.now c.pieces.reader c.take_piece.new.reader _ _ _ _ _ _ piece
    c.pieces.invariant.reads c.in-Ok.ensures.bytes.0 c.in_ok-fault.ensures.read.state c.in_ok-fault.ensures.ok in
    let p = err_from_is_err_and c.from_residual-in_err-pause.result c.from_residual-in_err-pause.ensures.1 in
    rw (p.1, p.2)
    (ReadsSome-paused g.W.Intake.stands g.W.Intake.halted c.args.work.now c.take_piece.new.work c.pause.new.self c.args.reader.now c.take_piece.new.reader c.in_err-pause.field-0.0 _ _ _ _ _ so_far c.in_err-pause.ensures.err)
