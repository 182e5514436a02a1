use Rattle.std.proofs.Common.{◌∷◌, subst, sym}
use Rattle.std.proofs.lemmas.Result.{on_ok_weaker}
use Rattle.ff_net.specs.Logs.{Fed}
use Rattle.ff_loop.specs.Moves.{Fed as MoveFed}
use Rattle.ff_loop.specs.Rounds.{log_of, taken_of, IsRound, GoesRound}
use Rattle.ff_loop.proofs.RoundSteps.{GoesRound-move}
use Rattle.ff_loop.proofs.rounds.Rounds.feed.Goals as goal

pub returns : goal.returns
returns c = on_ok_weaker c.offer.result
    (λ moves. subst (λ s. GoesRound s c.offer.new.self (Fed c.args.t ∷ log_of s) (taken_of s)) c.self.view_is
    (GoesRound-move c.self.inside.master c.offer.new.self (MoveFed c.args.t) (subst IsRound (sym c.self.view_is) c.requires) moves))
    c.offer.ensures
