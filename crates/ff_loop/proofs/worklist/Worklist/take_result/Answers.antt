use Rattle.ff_loop.proofs.WorkViews.{IsRight-took_result-by}
use Rattle.ff_loop.proofs.worklist.Worklist.take_result.Goals as goal

pub returns-clause-right : goal.returns-clause-right
returns-clause-right c = IsRight-took_result-by _ c.args.self.now c.in_ok-r.r c.take_first.new.self c.note.new.self c.self.view_is c.requires c.in_ok-r.ensures c.note.ensures
