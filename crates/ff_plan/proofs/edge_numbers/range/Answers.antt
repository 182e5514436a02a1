-- One edge more is done.
use Rattle.std.proofs.Common.{◌+◌, ◌-◌}
use Rattle.ff_plan.specs.Rows.{range}
use Rattle.ff_plan.proofs.Lefts.{range-to, done-one}
use Rattle.ff_plan.proofs.edge_numbers.range.Goals as goal

pub loop-edge-preserved : goal.loop-edge-preserved
loop-edge-preserved c =
    let e = c.loop-edge.edge in
    let end = c.args.first + c.args.count in
    done-one c.loop-edge.edges.items c.push.new.self.items (range e (end - e)) (range (e + 1) (end - (e + 1))) (range c.args.first c.args.count) e
    c.loop-edge.invariant (range-to e end c.loop-edge-test.true) c.in_ok-push.ensures.items
