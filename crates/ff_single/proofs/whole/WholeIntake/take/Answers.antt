-- The record was added, or memory ran out.
use Rattle.std.proofs.Common.{[], ◌∷◌, ◌++◌, ap, ◌∙◌}
use Rattle.std.proofs.lemmas.Result.{err_from_is_err_and}
use Rattle.ff_single.proofs.Wholes.{Goes-pushed, Halts-unpushed}
use Rattle.ff_single.proofs.whole.WholeIntake.take.Goals as goal

pub returns-in_err-push-clause-err : goal.returns-in_err-push-clause-err
returns-in_err-push-clause-err g c =
    let p = err_from_is_err_and c.from_residual.result c.from_residual.ensures.1 in
    rw (p.1, p.2) (Halts-unpushed _ c.args.self.now _ c.args.r _ (λ j xs front at. at.nothing))

pub returns-clause-ok : goal.returns-clause-ok
returns-clause-ok g c =
    Goes-pushed _ c.args.self.now _ c.args.r _
    (λ j xs front at. record { runs = at.runs; given = c.in_ok-push.ensures.ok ∙ ap (λ l. l ++ c.args.r ∷ []) at.given; nothing = at.nothing })
