use Rattle.std.proofs.Common.{◌≡◌, ◌<◌, ◌++◌, length}
use Rattle.ff_mean.specs.Pipelines.{all_nodes}
use Rattle.ff_single.proofs.groups.group.Given as goal

-- the nodes so far stand in the combs and in the next one
abbrev pub invariant-loop-node : goal.invariant-loop-node
invariant-loop-node g l = record {
  all : all_nodes l.groups.items ++ l.parts.items ≡ l.yielded;
  few : length l.parts.items < 64;
}
