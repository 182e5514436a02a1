use Rattle.std.proofs.Common.{subst, sym, arith}
use Rattle.ff_loop.specs.Worklists.{IsRight}
use Rattle.ff_loop.proofs.WorkSteps.{next_id-first, out-first}
use Rattle.ff_loop.proofs.WorkViews.{Goes-gave_first-by}
use Rattle.ff_loop.proofs.worklist.WorklistSchedulerRecordSends.next.Goals as goal

pub overflow_add-self : goal.overflow_add-self
overflow_add-self c =
    let below = next_id-first _ c.in_ok-t.t c.take_first.new.self (subst IsRight (sym c.self.view_is) c.requires) c.in_ok-t.ensures in
    omega (arith, below)

pub overflow_add-self-2 : goal.overflow_add-self-2
overflow_add-self-2 c =
    let below = out-first _ c.in_ok-t.t c.take_first.new.self (subst IsRight (sym c.self.view_is) c.requires) c.in_ok-t.ensures in
    omega (arith, below)

pub returns : goal.returns
returns c = Goes-gave_first-by _ c.args.self.now c.self.view_is c.requires c.given.new.self c.in_ok-t.t c.take_first.new.self c.in_ok-t.ensures c.given.ensures
