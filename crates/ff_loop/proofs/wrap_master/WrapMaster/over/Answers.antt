use Rattle.std.proofs.Common.{◌↔◌, IsTrue, sym, subst, ap, ◌∙◌}
use Rattle.ff_loop.specs.WrapMasterLaws.{Ran-over, is_past-tells}
use Rattle.ff_net.specs.Logs.{IsOverLimit}
use Rattle.ff_loop.specs.Rounds.{test_of, limit_of, log_of}
use Rattle.ff_loop.proofs.wrap_master.WrapMaster.over.Goals as goal

-- its flag is that of its log
pub returns-clause-past : goal.returns-clause-past
returns-clause-past c = λ gots puts ran.
    let u = c.args.self.now in
    subst (λ b. IsTrue b ↔ IsOverLimit (limit_of u.round) (test_of u.round) (log_of u.round))
    (sym (Ran-over u gots puts ran) ∙ ap (λ w. w.over) (sym c.self.view_is)) (is_past-tells u.round)
