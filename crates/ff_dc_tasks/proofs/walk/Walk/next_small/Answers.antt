use Rattle.std.proofs.Common.{◌∙◌, sym, arith}
use Rattle.ff_dc_tasks.proofs.OnWay.{IsOnWay-begun, IsOnWay-divided, ComesTo-small, number-on_way, number-left, path-on_way, length-on_way}
use Rattle.ff_dc_tasks.proofs.walk.Walk.next_small.Goals as goal

pub loop-left-init : goal.loop-left-init
loop-left-init g c = IsOnWay-begun (g.F.RuleFunctions.rule c.args.functions.now) c.args.self.now c.in_ok-here.here c.take_first.new.self c.requires c.in_ok-here.ensures

pub overflow_mul-here : goal.overflow_mul-here
overflow_mul-here g c =
    omega (arith, path-on_way (g.F.RuleFunctions.rule c.args.functions.now) c.args.self.now c.requires c.loop-left.here c.loop-left.self c.loop-left.invariant)

pub overflow_add-here : goal.overflow_add-here
overflow_add-here g c =
    omega (arith, path-on_way (g.F.RuleFunctions.rule c.args.functions.now) c.args.self.now c.requires c.loop-left.here c.loop-left.self c.loop-left.invariant)

pub put-requires : goal.put-requires
put-requires g c =
    omega (
      arith,
      length-on_way (g.F.RuleFunctions.rule c.args.functions.now) c.args.self.now c.requires c.loop-left.here c.loop-left.self c.loop-left.invariant
          (sym c.is_small.ensures ∙ c.loop-left-test.true),
    )

pub overflow_mul-here-in-loop-left : goal.overflow_mul-here-in-loop-left
overflow_mul-here-in-loop-left g c =
    omega (arith, path-on_way (g.F.RuleFunctions.rule c.args.functions.now) c.args.self.now c.requires c.loop-left.here c.loop-left.self c.loop-left.invariant)

pub overflow_add-self : goal.overflow_add-self
overflow_add-self g c =
    omega (arith, number-on_way (g.F.RuleFunctions.rule c.args.functions.now) c.args.self.now c.requires c.loop-left.here c.loop-left.self c.loop-left.invariant)

pub loop-left-smaller : goal.loop-left-smaller
loop-left-smaller g c =
    omega (arith, number-left (g.F.RuleFunctions.rule c.args.functions.now) c.args.self.now c.requires c.loop-left.here c.loop-left.self c.loop-left.invariant)

pub loop-left-preserved : goal.loop-left-preserved
loop-left-preserved g c = IsOnWay-divided (g.F.RuleFunctions.rule c.args.functions.now) c.args.self.now c.requires c.loop-left.here c.loop-left.self c.loop-left.invariant
    (sym c.is_small.ensures ∙ c.loop-left-test.true) c.divide.result c.put.new.self c.divide.ensures c.put.ensures

pub overflow_add-self-2 : goal.overflow_add-self-2
overflow_add-self-2 g c =
    omega (arith, number-on_way (g.F.RuleFunctions.rule c.args.functions.now) c.args.self.now c.requires c.loop-left.here c.loop-left.self c.loop-left.invariant)

pub returns : goal.returns
returns g c = ComesTo-small (g.F.RuleFunctions.rule c.args.functions.now) c.args.self.now c.requires c.loop-left.here c.loop-left.self c.loop-left.invariant
    (sym c.is_small.ensures ∙ c.loop-left-test.false)
