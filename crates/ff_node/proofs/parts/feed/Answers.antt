use Rattle.std.proofs.Common.{◌≡◌, ◌+◌, ◌-◌, ◌<◌, ◌∙◌, length, arith}
use Rattle.ff_node.specs.Comb.{part}
use Rattle.ff_node.proofs.HandsOn.{HandsOn-some, HandsOn-given}
use Rattle.ff_node.proofs.parts.feed.Goals as goal

pub returns-in_default-clause-state : goal.returns-in_default-clause-state
returns-in_default-clause-state g c =
    let left : 0 < length c.args.out.now.sends - c.loop-taken._taken = omega (arith, c.loop-taken-test.true, c.len-taken-end.ensures) in
    absurd (HandsOn-some g.N.Node.does (part c.args.node.now c.args.ended.now) c.args.out.now (length c.args.out.now.sends - c.loop-taken._taken)
    (part c.loop-taken.node c.loop-taken.ended) c.loop-taken.out c.loop-taken.invariant.on left c.in_default.ensures.0)

pub returns-in_default-clause-sends : goal.returns-in_default-clause-sends
returns-in_default-clause-sends g c =
    let left : 0 < length c.args.out.now.sends - c.loop-taken._taken = omega (arith, c.loop-taken-test.true, c.len-taken-end.ensures) in
    absurd (HandsOn-some g.N.Node.does (part c.args.node.now c.args.ended.now) c.args.out.now (length c.args.out.now.sends - c.loop-taken._taken)
    (part c.loop-taken.node c.loop-taken.ended) c.loop-taken.out c.loop-taken.invariant.on left c.in_default.ensures.0)

pub loop-taken-preserved : goal.loop-taken-preserved
loop-taken-preserved g c =
    let b = g.N.Node.does in
    let all = length c.args.out.now.sends in
    let k = c.loop-taken._taken in
    let one : all - k ≡ all - (k + 1) + 1 = omega (arith, c.loop-taken-test.true, c.len-taken-end.ensures) in
    record {
      kind = c.in_ok-give.ensures.kind ∙ c.loop-taken.invariant.kind;
      on = HandsOn-given b (part c.args.node.now c.args.ended.now) c.args.out.now (all - k) (all - (k + 1)) c.loop-taken.node c.loop-taken.ended c.loop-taken.out
          c.take_first.new.self c.in-Some.r c.loop-taken.invariant.on one c.in-Some.ensures (part c.give.new.node c.give.new.ended) c.give.new.out
          c.in_ok-give.ensures.state c.in_ok-give.ensures.sends;
    }
