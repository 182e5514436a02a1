use Rattle.std.proofs.lemmas.Result.{on_err_weaker}
use Rattle.ff_loop.proofs.NextSteps.{KeepsRound-stays}
use Rattle.ff_loop.proofs.wrap_master.WrapMaster.find_next.Goals as goal

pub returns-in-None-clause-err : goal.returns-in-None-clause-err
returns-in-None-clause-err c = on_err_weaker c.send_or_tell.result
    (λ same. KeepsRound-stays c.args.self.now c.send_or_tell.new.self c.requires.sized same) c.send_or_tell.ensures.err
