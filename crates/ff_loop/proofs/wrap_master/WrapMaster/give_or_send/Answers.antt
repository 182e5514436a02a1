use Rattle.ff_loop.proofs.NextSteps.{OnErr-anyway, KeepsRound-same}
use Rattle.ff_loop.proofs.wrap_master.WrapMaster.give_or_send.Goals as goal

pub returns-in_err-t-clause-err : goal.returns-in_err-t-clause-err
returns-in_err-t-clause-err c = OnErr-anyway c.from_residual.result
    (KeepsRound-same _ c.args.self.now c.self.view_is c.requires.sized _ c.in_err-t.ensures.err)
