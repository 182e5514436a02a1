-- The copies are as many as the nodes.
use Rattle.std.proofs.Common.{◌≡◌, length, ap, ◌∙◌, arith}
use Rattle.std.proofs.lemmas.List.{length-map}
use Rattle.ff_net.specs.Nodes.{nodes_in}
use Rattle.ff_net.specs.Tree.{tree_of}
use Rattle.ff_steps.proofs.UnitsOpened.{InRange-nodes_in}
use Rattle.ff_steps.proofs.units.add_stage.Goals as goal

pub new-requires : goal.new-requires
new-requires g c =
    let nodes = nodes_in (tree_of c.args.net.now) in
    let many : length c.in_ok-nodes.nodes.items ≡ length nodes = ap length c.in_ok-nodes.ensures ∙ length-map nodes g.N.Node.does.opening in
    let range = InRange-nodes_in g.N.Node.does (tree_of c.args.net.now) c.requires.good c.requires.node in
    record { some = omega (arith, many, range.0); few = omega (arith, many, range.1) }
