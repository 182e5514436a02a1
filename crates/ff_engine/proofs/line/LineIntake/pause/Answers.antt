-- What came was written, or writing broke off, or a unit was short of memory.
use Rattle.std.proofs.Common.{[], refl, sym, ◌∙◌, append-nil}
use Rattle.std.proofs.lemmas.Result.{err_from_is_err_and}
use Rattle.ff_engine.specs.Seen.{caller_of}
use Rattle.ff_engine.proofs.LineEnds.{Goes-moves, Halts-breaks, Halts-shown}
use Rattle.ff_engine.proofs.line.LineIntake.pause.Goals as goal

pub returns-in_err-show-clause-err : goal.returns-in_err-show-clause-err
returns-in_err-show-clause-err g c =
    let p = err_from_is_err_and c.from_residual.result c.from_residual.ensures.1 in
    rw (p.1, p.2)
    (Halts-breaks g.N.Node.does (λ l. caller_of l.caller) (λ l. l.crew) c.args.self.now _ [] c.in_err-show.field-0.0 _ _ refl
    c.in_err-show.ensures.goes.breaks c.in_err-show.ensures.goes.starves c.in_err-show.ensures.put c.in_err-show.ensures.goes.rings)

pub returns-then-is_cut-clause-err : goal.returns-then-is_cut-clause-err
returns-then-is_cut-clause-err g c =
    Halts-shown g.N.Node.does (λ l. caller_of l.caller) (λ l. l.crew) c.args.self.now _ _ _
    (Goes-moves g.N.Node.does (λ l. caller_of l.caller) (λ l. l.crew) c.args.self.now _ [] _ _ refl
    c.in_ok-show.ensures.goes.moves (c.in_ok-show.ensures.put ∙ sym (append-nil (caller_of c.args.self.now.caller).put)) c.in_ok-show.ensures.goes.rings)

pub returns-clause-ok : goal.returns-clause-ok
returns-clause-ok g c =
    Goes-moves g.N.Node.does (λ l. caller_of l.caller) (λ l. l.crew) c.args.self.now _ [] _ _ refl
    c.in_ok-show.ensures.goes.moves (c.in_ok-show.ensures.put ∙ sym (append-nil (caller_of c.args.self.now.caller).put)) c.in_ok-show.ensures.goes.rings
