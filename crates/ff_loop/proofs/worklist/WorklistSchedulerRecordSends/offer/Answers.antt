use Rattle.std.proofs.lemmas.Result.{on_ok_weaker}
use Rattle.ff_loop.proofs.WorkViews.{Goes-fed_in-by}
use Rattle.ff_loop.proofs.worklist.WorklistSchedulerRecordSends.offer.Goals as goal

pub returns : goal.returns
returns c = on_ok_weaker c.push.result
    (λ pushed. Goes-fed_in-by _ c.args.self.now c.self.view_is c.requires c.offered.new.self c.args.t c.push.new.self c.if-self-eq0.false c.offered.ensures pushed)
    c.push.ensures.ok
