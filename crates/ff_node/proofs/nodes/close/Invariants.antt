use Rattle.std.proofs.Common.{◌≡◌, ◌++◌, map, take, drop}
use Rattle.ff_node.proofs.nodes.close.Given as goal

-- the nodes up to here are in their opening states
abbrev pub invariant-loop-node : goal.invariant-loop-node
invariant-loop-node g l = l.nodes ≡ take l.node-index (map g.N.Node.does.opening l.fn.nodes) ++ drop l.node-index l.fn.nodes
