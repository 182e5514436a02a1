use Rattle.std.proofs.Common.{subst, sym}
use Rattle.std.proofs.lemmas.Result.{IfOk-weaker}
use Rattle.ff_loop.specs.Masters.{Gives}
use Rattle.ff_loop.specs.Rounds.{IsRound, GivesTask}
use Rattle.ff_loop.specs.Worklists.{work_does}
use Rattle.ff_loop.proofs.RoundSteps.{GivesTask-gives}
use Rattle.ff_loop.proofs.rounds.Rounds.give.Goals as goal

pub returns : goal.returns
returns c = IfOk-weaker c.give.result (λ t. Gives work_does c.args.w c.self.inside.master t c.give.new.self)
    (λ t. GivesTask c.args.w c.args.self.now t c.give.new.self)
    (λ t gives. subst (λ s. GivesTask c.args.w s t c.give.new.self) c.self.view_is
    (GivesTask-gives c.args.w c.self.inside.master c.give.new.self t (subst IsRound (sym c.self.view_is) c.requires.round) gives))
    c.give.ensures
