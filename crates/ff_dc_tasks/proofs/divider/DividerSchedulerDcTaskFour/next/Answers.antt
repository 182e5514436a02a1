use Rattle.std.proofs.Common.{arith}
use Rattle.ff_dc_tasks.proofs.DividerViews.{Nexts-gave-by, Nexts-none-by, out-small-by}
use Rattle.ff_dc_tasks.proofs.divider.DividerSchedulerDcTaskFour.next.Goals as goal

pub returns-in_err-place : goal.returns-in_err-place
returns-in_err-place g c =
    let none = c.in_err-place.ensures in
    Nexts-none-by c.args.self.now c.take.new.self c.from_residual.result c.requires none.0 none.1 none.2 c.from_residual.ensures

pub overflow_add-self : goal.overflow_add-self
overflow_add-self g c =
    omega (arith, out-small-by c.args.self.now c.take.new.self _ c.self.view_is c.in_ok-place.place c.in_ok-place.task c.requires c.in_ok-place.ensures)

pub returns : goal.returns
returns g c = Nexts-gave-by c.args.self.now c.take.new.self _ c.self.view_is c.in_ok-place.place c.in_ok-place.task c.id-id.result c.given.new.self c.requires
    c.in_ok-place.ensures c.id-id.ensures.number c.id-id.ensures.path c.given.ensures
