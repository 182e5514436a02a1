use Rattle.std.proofs.Common.{◌≡◌, ◌-◌, ◌+◌, ◌*◌, ◌++◌}
use Rattle.ff_plan.specs.Rows.{stride}
use Rattle.ff_plan.proofs.edge_numbers.stride.Given as goal

-- the edges so far and those that are left are all
abbrev pub invariant-loop-k : goal.invariant-loop-k
invariant-loop-k l = record {
  all : l.edges.items ++ stride l.step l.edge (l.count - l._k) ≡ stride l.step l.first l.count;
  room : l.edge + (l.count - l._k) * l.step ≡ l.first + l.count * l.step;
}
