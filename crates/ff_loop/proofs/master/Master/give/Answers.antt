use Rattle.ff_loop.proofs.MasterViews.{Moves-gave-by}
use Rattle.ff_loop.proofs.master.Master.give.Goals as goal

pub returns : goal.returns
returns g c =
    let due = c.in-Some.ensures in (
      c.in-Some.id,
      Moves-gave-by g.S.Scheduler.does c.self.inside.scheduler c.self.inside.start.value c.next.new.self c.self.inside.out.items c.self.inside.log c.gave.new.self
          c.args.self.now c.self.view_is c.args.w c.in-Some.id c.in-Some.t c.index_mut.result.now c.push.new.self c.requires.kept c.requires.worker
          due.0 due.2 c.index_mut.ensures.value c.in_ok-push.ensures.ok c.gave.ensures,
    )
