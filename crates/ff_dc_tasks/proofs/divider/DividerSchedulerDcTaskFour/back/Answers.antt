use Rattle.std.proofs.Common.{Option, subst}
use Rattle.ff_dc_tasks.specs.declared.place.Pair.{Pair}
use Rattle.ff_dc_tasks.specs.Pairs.{Meets}
use Rattle.ff_dc_tasks.proofs.DividerViews.{out-some-by, half_at-out-by, Goes-whole-by, Goes-half-by, Goes-pair-by}
use Rattle.ff_dc_tasks.proofs.divider.DividerSchedulerDcTaskFour.back.Goals as goal

pub overflow_sub-self : goal.overflow_sub-self
overflow_sub-self g c = out-some-by _ c.args.self.now c.self.view_is c.args.id c.args.a c.requires.right c.requires.out

pub returns-then-place-eq0 : goal.returns-then-place-eq0
returns-then-place-eq0 g c = Goes-whole-by _ c.args.self.now c.self.view_is c.args.id c.args.a c.requires.right c.requires.out c.back.new.self c.back.ensures
    c.of-place.result c.of-place.ensures.number c.if-place-eq0.true

pub meet-requires-clause-other : goal.meet-requires-clause-other
meet-requires-clause-other g c = half_at-out-by _ c.args.self.now c.self.view_is c.args.id c.args.a c.requires.right c.requires.out
    c.of-place.result c.of-place.ensures.number c.of-place.ensures.path c.if-place-eq0.false

pub returns-in_ok-push : goal.returns-in_ok-push
returns-in_ok-push g c =
    let met = subst (λ (o : Option Pair). Meets c.self.inside.halves c.of-place.result c.args.a o c.meet.new.self) c.in-Some.is c.in_ok-pair.ensures in
    Goes-pair-by _ c.args.self.now c.self.view_is c.args.id c.args.a c.requires.right c.requires.out c.back.new.self c.back.ensures
    c.of-place.result c.of-place.ensures.number c.of-place.ensures.path c.if-place-eq0.false c.meet.new.self c.in-Some.pair c.push.new.self.items met
    c.in_ok-push.ensures.items

pub returns-in_default : goal.returns-in_default
returns-in_default g c =
    let met = subst (λ (o : Option Pair). Meets c.self.inside.halves c.of-place.result c.args.a o c.meet.new.self) c.in_default.is c.in_ok-pair.ensures in
    Goes-half-by _ c.args.self.now c.self.view_is c.args.id c.args.a c.requires.right c.requires.out c.back.new.self c.back.ensures
    c.of-place.result c.of-place.ensures.number c.of-place.ensures.path c.if-place-eq0.false c.meet.new.self met
