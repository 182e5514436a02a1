-- One edge more is done.
use Rattle.std.proofs.Common.{◌+◌, ◌-◌, arith}
use Rattle.ff_plan.specs.Rows.{stride}
use Rattle.ff_plan.proofs.Lefts.{left-times, stride-left, done-one}
use Rattle.ff_plan.proofs.edge_numbers.stride.Goals as goal

pub overflow_add-edge : goal.overflow_add-edge
overflow_add-edge c = omega (arith, left-times c.loop-k._k c.args.count c.args.step c.loop-k-test.true)

pub loop-k-preserved : goal.loop-k-preserved
loop-k-preserved c =
    let k = c.loop-k._k in
    let n = c.args.count in
    let w = c.args.step in
    let e = c.loop-k.edge in
    record {
      all = done-one c.loop-k.edges.items c.push.new.self.items (stride w e (n - k)) (stride w (e + w) (n - (k + 1))) (stride w c.args.first n) e
          c.loop-k.invariant.all (stride-left w e k n c.loop-k-test.true) c.in_ok-push.ensures.items;
      room = omega (arith, left-times k n w c.loop-k-test.true);
    }
