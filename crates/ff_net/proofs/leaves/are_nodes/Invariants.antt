use Rattle.std.proofs.Common.{◌≡◌, drop}
use Rattle.ff_net.specs.Tree.{trees_of}
use Rattle.ff_net.specs.RuleTests.{are_nodes}
use Rattle.ff_net.proofs.leaves.are_nodes.Given as goal

-- the parts that are left decide
abbrev pub invariant-loop-part : goal.invariant-loop-part
invariant-loop-part g l = are_nodes (trees_of l.parts) ≡ are_nodes (trees_of (drop l.part-index l.parts))
