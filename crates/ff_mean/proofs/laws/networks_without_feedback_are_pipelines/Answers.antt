use Rattle.ff_mean.proofs.Pipelines.{is_pipeline}
use Rattle.ff_mean.proofs.laws.networks_without_feedback_are_pipelines.Goals as goal

pub returns : goal.returns
returns g c = is_pipeline g.N.Node.does
