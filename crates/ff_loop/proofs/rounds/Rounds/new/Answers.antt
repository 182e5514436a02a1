use Rattle.ff_loop.proofs.RoundSteps.{IsOpened-new}
use Rattle.ff_loop.proofs.rounds.Rounds.new.Goals as goal

pub returns-clause-opened : goal.returns-clause-opened
returns-clause-opened c = IsOpened-new c.args.test c.args.limit c.args.workers c.new-tasks.result c.in_ok-master.master c.new-tasks.ensures.opened
    c.in_ok-master.ensures.opened c.in_ok-master.ensures.kept
