use Rattle.std.proofs.Common.{subst, sym}
use Rattle.ff_loop.specs.Rounds.{IsRound, TakesOut}
use Rattle.ff_loop.proofs.RoundSteps.{TakesOut-held}
use Rattle.ff_loop.proofs.rounds.Rounds.take_result.Goals as goal

pub returns : goal.returns
returns c = subst (λ s. TakesOut s c.take_result.result c.take_result.new.self) c.self.view_is
    (TakesOut-held c.self.inside.master c.take_result.new.self c.take_result.result (subst IsRound (sym c.self.view_is) c.requires)
    c.take_result.ensures.kept c.take_result.ensures.result)
