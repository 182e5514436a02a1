use Rattle.std.proofs.Common.{◌↔◌, IsTrue, subst, sym}
use Rattle.ff_net.specs.Logs.{IsDone}
use Rattle.ff_loop.specs.Rounds.{test_of, limit_of, workers_of, log_of, IsRound}
use Rattle.ff_loop.proofs.RoundSteps.{IsDone-round}
use Rattle.ff_loop.proofs.rounds.Rounds.is_done.Goals as goal

pub returns : goal.returns
returns c = subst (λ s. IsTrue c.idle.result ↔ IsDone (workers_of s) (limit_of s) (test_of s) (log_of s)) c.self.view_is
    (IsDone-round c.self.inside.master (subst IsRound (sym c.self.view_is) c.requires) c.idle.result c.idle.ensures.done)
