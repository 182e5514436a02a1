-- One edge more is done.
use Rattle.std.proofs.Common.{◌+◌, ◌-◌, ◌∷◌, [], ◌++◌, map, ap, ◌∙◌}
use Rattle.ff_plan.specs.Plans.{edge_of}
use Rattle.ff_plan.specs.Rows.{range}
use Rattle.ff_plan.proofs.Lefts.{range-to, done-one}
use Rattle.ff_plan.proofs.edges.edges_of.Goals as goal

pub loop-edge-preserved : goal.loop-edge-preserved
loop-edge-preserved c =
    let e = c.loop-edge.edge in
    let n = c.args.count in
    let one = edge_of c.args.units.now c.args.cap c.args.queue in
    done-one c.loop-edge.edges.items c.push.new.self.items (map one (range e (n - e))) (map one (range (e + 1) (n - (e + 1)))) (map one (range 0 n)) (one e)
    c.loop-edge.invariant (ap (map one) (range-to e n c.loop-edge-test.true))
    (c.in_ok-push.ensures.items ∙ ap (λ x. c.loop-edge.edges.items ++ x ∷ []) c.edge_of.ensures)
