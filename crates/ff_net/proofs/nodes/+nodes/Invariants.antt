use Rattle.std.proofs.Common.{◌≡◌, ◌++◌, map, drop}
use Rattle.ff_net.specs.Tree.{trees_of}
use Rattle.ff_net.specs.Nodes.{nodes_through}
use Rattle.ff_net.proofs.nodes.+nodes.Given as goal

-- the nodes so far with those of the parts that are left are all
abbrev pub invariant-add_parts-loop-part : goal.invariant-add_parts-loop-part
invariant-add_parts-loop-part g l =
    l.nodes.items ++ map g.N.Node.does.opening (nodes_through (trees_of (drop l.part-index l.parts)))
    ≡ l.initial.nodes.items ++ map g.N.Node.does.opening (nodes_through (trees_of l.parts))
