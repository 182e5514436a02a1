use Rattle.std.proofs.Common.{◌≡◌, ◌-◌, ◌++◌}
use Rattle.ff_plan.specs.Rows.{range}
use Rattle.ff_plan.proofs.edge_numbers.range.Given as goal

-- the edges so far and those that are left are all
abbrev pub invariant-loop-edge : goal.invariant-loop-edge
invariant-loop-edge l = l.edges.items ++ range l.edge (l.edge-end - l.edge) ≡ range l.first l.count
