-- The bytes that there is room for were passed, and then those behind them.
use Rattle.std.proofs.Common.{◌-◌, take, drop, arith, take-append-drop, length-take, length-drop}
use Rattle.std.proofs.lemmas.Result.{err_from_is_err_and}
use Rattle.ff_rec.specs.Progress.{reading_of}
use Rattle.ff_rec.proofs.Steps.{front-state, full-state}
use Rattle.ff_rec.proofs.line_reader.passing.pass.Goals as goal

pub returns-in_err-pass_within-clause-state : goal.returns-in_err-pass_within-clause-state
returns-in_err-pass_within-clause-state c =
    let room = c.args.limits.input - c.args.progress.now.taken in
    let r = err_from_is_err_and c.from_residual.result c.from_residual.ensures.1 in
    rw (r.1, r.2)
    (front-state (reading_of c.args.limits c.args.progress.now) (take room c.args.piece.now) (drop room c.args.piece.now) c.args.piece.now (take-append-drop room c.args.piece.now)
    c.args.limits c.pass_within-2.new.progress c.in_err-pass_within.field-0.0 c.in_err-pass_within.ensures.state)

pub returns-clause-state : goal.returns-clause-state
returns-clause-state c =
    let room = c.args.limits.input - c.args.progress.now.taken in
    full-state (reading_of c.args.limits c.args.progress.now) (take room c.args.piece.now) (drop room c.args.piece.now) c.args.piece.now (take-append-drop room c.args.piece.now)
    c.args.limits c.pass_within-2.new.progress c.in_ok-pass_within.ensures.state
    (omega (arith, c.in_ok-pass_within.ensures.taken, length-take room c.args.piece.now))
    (omega (arith, length-drop room c.args.piece.now))
