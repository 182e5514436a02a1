-- The nodes of the network stand for it.
use Rattle.ff_net.specs.Tree.{tree_of}
use Rattle.ff_mean.proofs.Groups.{ArePipelineOf-opened}
use Rattle.ff_single.proofs.pipeline.run_pipeline.Goals as goal

pub run_nodes-requires : goal.run_nodes-requires
run_nodes-requires g c =
    let t = tree_of c.args.checked.now.net in
    ArePipelineOf-opened g.N.Node.does g.met.N.Node.keeps_kind t c.args.nodes.items c.requires.no_wrap
    (c.networks_without_feedback_are_pipelines.ensures t c.requires.no_wrap) c.requires.nodes
