use Rattle.ff_node.specs.CombLaws.{comb-is_pipeline, comb-ends_with_first}
use Rattle.ff_node.proofs.laws.comb_is_composition.Goals as goal

pub returns : goal.returns
returns g c = record { line = comb-is_pipeline g.N.Node.does; ends = comb-ends_with_first g.N.Node.does }
