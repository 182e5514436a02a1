use Rattle.std.proofs.lemmas.Result.{on_ok_weaker}
use Rattle.ff_loop.proofs.MasterViews.{owed-held-by, IsOut-by, Moves-got-by}
use Rattle.ff_loop.proofs.master.Master.got.Goals as goal

pub take_first-id-requires : goal.take_first-id-requires
take_first-id-requires g c = owed-held-by g.S.Scheduler.does c.self.inside.scheduler c.self.inside.start.value c.self.inside.scheduler c.self.inside.out.items c.self.inside.log c.self.inside.log
    c.args.self.now c.self.view_is c.args.w c.index_mut.result.now c.requires.kept c.requires.worker c.requires.owed c.index_mut.ensures.value

pub back-requires-clause-out : goal.back-requires-clause-out
back-requires-clause-out g c = IsOut-by g.S.Scheduler.does c.self.inside.scheduler c.self.inside.start.value c.self.inside.scheduler c.self.inside.out.items c.self.inside.log c.self.inside.log
    c.args.self.now c.self.view_is c.args.w c.take_first-id.result c.index_mut.result.now c.take_first-id.new.self c.requires.kept c.requires.worker
    c.index_mut.ensures.value c.take_first-id.ensures

pub returns : goal.returns
returns g c = on_ok_weaker c.back.result
    (λ goes. (
      c.take_first-id.result,
      Moves-got-by g.S.Scheduler.does c.self.inside.scheduler c.self.inside.start.value c.back.new.self c.self.inside.out.items c.self.inside.log c.got.new.self
          c.args.self.now c.self.view_is c.args.w c.take_first-id.result c.args.a c.index_mut.result.now c.take_first-id.new.self c.requires.kept c.requires.worker c.requires.owed
          c.index_mut.ensures.value c.take_first-id.ensures goes c.got.ensures,
    ))
    c.back.ensures
