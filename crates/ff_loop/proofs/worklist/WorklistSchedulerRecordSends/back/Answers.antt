use Rattle.std.proofs.Common.{◌≤◌, ◌∷◌, subst, sym}
use Rattle.ff_net.specs.Levels.{meets}
use Rattle.ff_net.specs.Sorts.{HasSorted}
use Rattle.ff_loop.specs.Events.{Back}
use Rattle.ff_loop.specs.Scheduling.{Goes}
use Rattle.ff_loop.specs.Worklists.{WorkState, work_does}
use Rattle.ff_loop.proofs.WorkSteps.{out-back}
use Rattle.ff_loop.proofs.WorkViews.{Goes-came_back-by, Goes-sorted-by, Goes-spilled-by}
use Rattle.ff_loop.proofs.worklist.WorklistSchedulerRecordSends.back.Goals as goal

pub overflow_sub-self : goal.overflow_sub-self
overflow_sub-self c = subst (λ (w : WorkState). 1 ≤ w.out) (sym c.self.view_is) (out-back c.args.self.now c.args.id c.requires.right c.requires.out)

pub returns-then-self : goal.returns-then-self
returns-then-self c = Goes-came_back-by _ c.args.self.now c.self.view_is c.requires.right c.back.new.self c.args.id c.args.a c.requires.out c.back.ensures c.if-self.true

pub returns-then-branch : goal.returns-then-branch
returns-then-branch c =
    let sorted = subst (HasSorted (meets c.self.inside.test) c.self.inside.tasks c.sort.new.tasks c.args.a c.sort.new.out) c.if-branch.true c.in_ok-sort.ensures in
    Goes-sorted-by _ c.args.self.now c.self.view_is c.requires.right c.back.new.self c.args.id c.args.a c.requires.out c.back.ensures c.sort.new.tasks c.if-self.false sorted.0

pub returns : goal.returns
returns c =
    let many = subst (HasSorted (meets c.self.inside.test) c.self.inside.tasks c.sort.new.tasks c.args.a c.sort.new.out) c.if-branch.false c.in_ok-sort.ensures in
    subst (λ v. Goes work_does c.args.self.now v (Back c.args.id c.args.a ∷ c.args.self.now.events)) (sym c.pass_limit.ensures)
    (Goes-spilled-by _ c.args.self.now c.self.view_is c.requires.right c.back.new.self c.args.id c.args.a c.requires.out c.back.ensures c.if-self.false many)
