-- The bytes that there is room for were read, and then those behind them.
use Rattle.std.proofs.Common.{◌-◌, take, drop, arith, take-append-drop, length-take, length-drop}
use Rattle.std.proofs.lemmas.Result.{err_from_is_err_and}
use Rattle.ff_rec.specs.Progress.{reading_of}
use Rattle.ff_rec.specs.Reading.{given}
use Rattle.ff_rec.proofs.Steps.{first-all, front-first, front-state, front-records, full-state, full-records}
use Rattle.ff_rec.proofs.line_reader.steps.read.Goals as goal

pub returns-in_err-read_within-clause-first : goal.returns-in_err-read_within-clause-first
returns-in_err-read_within-clause-first c =
    let room = c.args.limits.input - c.args.progress.now.taken in
    front-first (reading_of c.args.limits c.args.progress.now) (take room c.args.piece.now) (drop room c.args.piece.now) c.args.piece.now (take-append-drop room c.args.piece.now)
    c.args.into.now.items c.read_within-2.new.into.items c.in_err-read_within.ensures.first

pub returns-in_err-read_within-clause-state : goal.returns-in_err-read_within-clause-state
returns-in_err-read_within-clause-state c =
    let room = c.args.limits.input - c.args.progress.now.taken in
    let r = err_from_is_err_and c.from_residual.result c.from_residual.ensures.1 in
    rw (r.1, r.2)
    (front-state (reading_of c.args.limits c.args.progress.now) (take room c.args.piece.now) (drop room c.args.piece.now) c.args.piece.now (take-append-drop room c.args.piece.now)
    c.args.limits c.read_within-2.new.progress c.in_err-read_within.field-0.0 c.in_err-read_within.ensures.state)

pub returns-in_err-read_within-clause-records : goal.returns-in_err-read_within-clause-records
returns-in_err-read_within-clause-records c =
    let room = c.args.limits.input - c.args.progress.now.taken in
    let r = err_from_is_err_and c.from_residual.result c.from_residual.ensures.1 in
    rw (r.1, r.2)
    (front-records (reading_of c.args.limits c.args.progress.now) (take room c.args.piece.now) (drop room c.args.piece.now) c.args.piece.now (take-append-drop room c.args.piece.now)
    c.args.into.now.items c.read_within-2.new.into.items c.args.limits c.read_within-2.new.progress c.in_err-read_within.field-0.0 c.in_err-read_within.ensures.state c.in_err-read_within.ensures.records)

pub returns-clause-state : goal.returns-clause-state
returns-clause-state c =
    let room = c.args.limits.input - c.args.progress.now.taken in
    full-state (reading_of c.args.limits c.args.progress.now) (take room c.args.piece.now) (drop room c.args.piece.now) c.args.piece.now (take-append-drop room c.args.piece.now)
    c.args.limits c.read_within-2.new.progress c.in_ok-read_within.ensures.state
    (omega (arith, c.in_ok-read_within.ensures.taken, length-take room c.args.piece.now))
    (omega (arith, length-drop room c.args.piece.now))

pub returns-clause-records : goal.returns-clause-records
returns-clause-records c =
    let room = c.args.limits.input - c.args.progress.now.taken in
    full-records (reading_of c.args.limits c.args.progress.now) (take room c.args.piece.now) (drop room c.args.piece.now) c.args.piece.now (take-append-drop room c.args.piece.now)
    c.args.into.now.items c.read_within-2.new.into.items c.args.limits c.read_within-2.new.progress c.in_ok-read_within.ensures.state
    (omega (arith, c.in_ok-read_within.ensures.taken, length-take room c.args.piece.now))
    (omega (arith, length-drop room c.args.piece.now))
    c.in_ok-read_within.ensures.records

pub returns-clause-first : goal.returns-clause-first
returns-clause-first c =
    first-all c.args.into.now.items c.read_within-2.new.into.items (given (reading_of c.args.limits c.args.progress.now) c.args.piece.now) (returns-clause-records c)
