use Rattle.ff_node.proofs.CombViews.{parts-running}
use Rattle.ff_node.proofs.comb.Comb.new.Goals as goal

pub returns : goal.returns
returns g c = parts-running c.args.parts.items 64
