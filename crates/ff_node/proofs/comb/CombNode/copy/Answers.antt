use Rattle.std.proofs.Common.{◌∙◌}
use Rattle.ff_node.proofs.CombViews.{running-opened}
use Rattle.ff_node.proofs.comb.CombNode.copy.Goals as goal

pub returns : goal.returns
returns g c =
    c.new.ensures
    ∙ running-opened g.N.Node.does c.self.inside.nodes.items c.in_ok-copies.field-0.items c.self.inside.ended c.args.self.now c.in_ok-copies.ensures c.self.view_is
