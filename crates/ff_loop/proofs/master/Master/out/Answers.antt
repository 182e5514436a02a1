use Rattle.std.proofs.Common.{◌+◌, length, ap, ◌∙◌}
use Rattle.ff_loop.specs.Moves.{answered}
use Rattle.ff_loop.proofs.MasterViews.{out-by}
use Rattle.ff_loop.proofs.master.Master.out.Goals as goal

pub returns : goal.returns
returns g c = ap (λ n. n + length (answered c.args.w c.args.self.now.log)) c.len.ensures
    ∙ out-by g.S.Scheduler.does c.self.inside.scheduler c.self.inside.start.value c.self.inside.scheduler c.self.inside.out.items c.self.inside.log c.self.inside.log
    c.args.self.now c.self.view_is c.args.w c.index.result.now c.requires.kept c.requires.worker c.index.ensures
