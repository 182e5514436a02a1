use Rattle.std.proofs.Common.{slice_index_or, ap, arith}
use Rattle.ff_node.proofs.PartsSteps.{set-mapped_at}
use Rattle.ff_node.proofs.nodes.open.Goals as goal

pub loop-node-preserved : goal.loop-node-preserved
loop-node-preserved g c =
    let ns = c.loop-node.nodes in
    let i = c.loop-node.node-index in
    set-mapped_at g.N.Node.does.opening c.args.nodes.now ns i (slice_index_or ns i c.node-item.result) c.svc_init.new.self
    c.loop-node.invariant (omega (arith, c.loop-node.auto.nodes)) (ap (slice_index_or ns i) c.node-item.is) c.svc_init.ensures
