use Rattle.std.proofs.Common.{◌≡◌, map, take}
use Rattle.ff_node.proofs.nodes.copies.Given as goal

abbrev pub invariant-loop-node : goal.invariant-loop-node
invariant-loop-node g l = l.other.items ≡ map g.N.Node.does.opening (take l.node-index l.node-items)
