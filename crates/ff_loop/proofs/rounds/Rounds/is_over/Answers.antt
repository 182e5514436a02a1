use Rattle.std.proofs.Common.{◌↔◌, IsTrue, subst, sym}
use Rattle.ff_net.specs.Logs.{IsOverLimit}
use Rattle.ff_loop.specs.Rounds.{test_of, limit_of, log_of, IsRound}
use Rattle.ff_loop.proofs.RoundSteps.{IsOverLimit-round}
use Rattle.ff_loop.proofs.rounds.Rounds.is_over.Goals as goal

pub returns : goal.returns
returns c = subst (λ s. IsTrue c.over.result ↔ IsOverLimit (limit_of s) (test_of s) (log_of s)) c.self.view_is
    (IsOverLimit-round c.self.inside.master (subst IsRound (sym c.self.view_is) c.requires) c.over.result c.over.ensures)
