use Rattle.ff_dc_tasks.proofs.DividerViews.{TakesOne-pair-by}
use Rattle.ff_dc_tasks.proofs.divider.Divider.take.Goals as goal

pub returns-in-Some : goal.returns-in-Some
returns-in-Some g c = TakesOne-pair-by _ c.args.self.now c.self.view_is c.in-Some.pair c.pop.new.self.items c.task.result c.requires c.in-Some.ensures.items c.task.ensures
