use Rattle.std.proofs.Common.{◌<◌, ◌∷◌, length, subst, sym}
use Rattle.std.proofs.lemmas.Result.{on_ok_weaker}
use Rattle.ff_net.specs.Logs.{Got, given_to, got_from}
use Rattle.ff_loop.specs.Moves.{Got as MoveGot}
use Rattle.ff_loop.specs.Rounds.{log_of, taken_of, IsRound, GoesRound}
use Rattle.ff_loop.proofs.RoundSteps.{owed-round, GoesRound-move}
use Rattle.ff_loop.proofs.rounds.Rounds.got.Goals as goal

pub got-requires-clause-owed : goal.got-requires-clause-owed
got-requires-clause-owed c = owed-round c.self.inside.master (subst IsRound (sym c.self.view_is) c.requires.round) c.args.w
    (subst (λ s. length (got_from c.args.w (log_of s)) < length (given_to c.args.w (log_of s))) (sym c.self.view_is) c.requires.owed)

pub returns : goal.returns
returns c = on_ok_weaker c.got.result
    (λ moves. subst (λ s. GoesRound s c.got.new.self (Got c.args.w c.args.answer.sends ∷ log_of s) (taken_of s)) c.self.view_is
    (GoesRound-move c.self.inside.master c.got.new.self (MoveGot c.args.w moves.0 c.args.answer) (subst IsRound (sym c.self.view_is) c.requires.round) moves.1))
    c.got.ensures
