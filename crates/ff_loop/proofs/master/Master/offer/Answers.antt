use Rattle.std.proofs.lemmas.Result.{on_ok_weaker}
use Rattle.ff_loop.proofs.MasterViews.{Moves-fed-by}
use Rattle.ff_loop.proofs.master.Master.offer.Goals as goal

pub returns : goal.returns
returns g c = on_ok_weaker c.offer.result
    (λ goes. Moves-fed-by g.S.Scheduler.does c.self.inside.scheduler c.self.inside.start.value c.offer.new.self c.self.inside.out.items c.self.inside.log c.fed.new.self
    c.args.self.now c.self.view_is c.args.t c.requires goes c.fed.ensures)
    c.offer.ensures
