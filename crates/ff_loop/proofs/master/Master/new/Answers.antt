use Rattle.ff_loop.proofs.MasterViews.{IsKept-opened-by}
use Rattle.ff_loop.proofs.master.Master.new.Goals as goal

pub returns-clause-kept : goal.returns-clause-kept
returns-clause-kept g c = IsKept-opened-by g.S.Scheduler.does c.args.scheduler c.of-start.result.value c.in_ok-out.out.items c.new.result c.args.workers
    g.met.S.Scheduler.sound c.requires.right c.requires.none_out c.of-start.ensures c.in_ok-out.ensures c.new.ensures
