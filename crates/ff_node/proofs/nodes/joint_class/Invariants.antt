use Rattle.std.proofs.Common.{◌≡◌, map, drop}
use Rattle.ff_node.specs.Comb.{joined_class}
use Rattle.ff_node.proofs.nodes.joint_class.Given as goal

-- the class so far with those behind it gives the whole
abbrev pub invariant-loop-node : goal.invariant-loop-node
invariant-loop-node g l =
    let classes = map g.N.Node.does.class in
    joined_class l.class (classes (drop l.node-index l.others)) ≡ joined_class l.initial.class (classes l.others)
