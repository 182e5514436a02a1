use Rattle.ff_net.specs.MeaningLaws.{pipeline_of_nodes}
use Rattle.ff_net.proofs.laws.pipes_of_nodes_are_pipelines.Goals as goal

pub returns : goal.returns
returns g c = pipeline_of_nodes g.N.Node.does
