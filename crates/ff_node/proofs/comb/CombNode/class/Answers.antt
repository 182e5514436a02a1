use Rattle.std.proofs.Common.{◌∙◌, map, sym, ap}
use Rattle.ff_node.specs.Comb.{joint_class, part_classes}
use Rattle.ff_node.proofs.CombViews.{part_classes-parts}
use Rattle.ff_node.proofs.comb.CombNode.class.Goals as goal

pub returns : goal.returns
returns g c =
    let b = g.N.Node.does in
    c.joint_class.ensures
    ∙ ap (λ ns. joint_class (map b.class ns)) c.deref.ensures.value
    ∙ ap joint_class (sym (part_classes-parts b c.self.inside.nodes.items c.self.inside.ended) ∙ ap (part_classes b) c.self.view_is)
