-- The copies are as many as the nodes, and Plain as one.
use Rattle.std.proofs.Common.{◌≡◌, length, ap, ◌∙◌, arith}
use Rattle.std.proofs.lemmas.List.{length-map}
use Rattle.ff_net.specs.Nodes.{nodes_in}
use Rattle.ff_net.specs.Tree.{tree_of}
use Rattle.ff_node.specs.Comb.{comb_node, running}
use Rattle.ff_plan.proofs.PlainWorkers.{group_of-plain}
use Rattle.ff_steps.proofs.UnitsOpened.{InRange-nodes_in}
use Rattle.ff_steps.proofs.wraps.add_worker.Goals as goal

pub new-requires-clause-some : goal.new-requires-clause-some
new-requires-clause-some g c =
    let nodes = nodes_in (tree_of c.args.net.now) in
    let many : length c.in_ok-nodes.nodes.items ≡ length nodes = ap length c.in_ok-nodes.ensures ∙ length-map nodes g.N.Node.does.opening in
    omega (arith, many, (InRange-nodes_in g.N.Node.does (tree_of c.args.net.now) c.requires.good c.requires.plain.0).0)

pub new-requires-clause-few : goal.new-requires-clause-few
new-requires-clause-few g c =
    let nodes = nodes_in (tree_of c.args.net.now) in
    let many : length c.in_ok-nodes.nodes.items ≡ length nodes = ap length c.in_ok-nodes.ensures ∙ length-map nodes g.N.Node.does.opening in
    omega (arith, many, (InRange-nodes_in g.N.Node.does (tree_of c.args.net.now) c.requires.good c.requires.plain.0).1)

pub new-worker-requires : goal.new-worker-requires
new-worker-requires g c =
    ap (comb_node g.N.Node.does).class (c.new.ensures ∙ ap running c.in_ok-nodes.ensures)
    ∙ group_of-plain g.N.Node.does g.met.N.Node.keeps_kind (tree_of c.args.net.now) c.requires.plain.1
