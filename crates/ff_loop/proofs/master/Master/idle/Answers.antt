use Rattle.ff_loop.proofs.MasterViews.{IsDone-by}
use Rattle.ff_loop.proofs.master.Master.idle.Goals as goal

pub returns-clause-done : goal.returns-clause-done
returns-clause-done g c = IsDone-by g.S.Scheduler.does c.self.inside.scheduler c.self.inside.start.value c.self.inside.scheduler c.self.inside.out.items c.self.inside.log c.self.inside.log
    c.args.self.now c.self.view_is c.idle.result g.met.S.Scheduler.sound c.requires c.idle.ensures
