use Rattle.std.proofs.Common.{◌≡◌, ◌+◌, length, subst, sym}
use Rattle.ff_net.specs.Logs.{given_to, got_from}
use Rattle.ff_loop.specs.Rounds.{log_of, IsRound}
use Rattle.ff_loop.proofs.RoundSteps.{out-round}
use Rattle.ff_loop.proofs.rounds.Rounds.out.Goals as goal

pub returns : goal.returns
returns c = subst (λ s. c.out.result + length (got_from c.args.w (log_of s)) ≡ length (given_to c.args.w (log_of s))) c.self.view_is
    (out-round c.self.inside.master (subst IsRound (sym c.self.view_is) c.requires.round) c.args.w c.out.result c.out.ensures)
