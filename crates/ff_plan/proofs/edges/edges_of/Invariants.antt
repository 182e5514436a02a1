use Rattle.std.proofs.Common.{◌≡◌, ◌-◌, ◌++◌, map}
use Rattle.ff_plan.specs.Plans.{edge_of}
use Rattle.ff_plan.specs.Rows.{range}
use Rattle.ff_plan.proofs.edges.edges_of.Given as goal

-- the edges so far and those that are left are all
abbrev pub invariant-loop-edge : goal.invariant-loop-edge
invariant-loop-edge l =
    l.edges.items ++ map (edge_of l.units l.cap l.queue) (range l.edge (l.count - l.edge))
    ≡ map (edge_of l.units l.cap l.queue) (range 0 l.count)
