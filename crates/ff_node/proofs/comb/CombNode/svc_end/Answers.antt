use Rattle.std.proofs.Common.{◌∙◌, map, ap}
use Rattle.ff_node.proofs.CombViews.{written-opened}
use Rattle.ff_node.proofs.comb.CombNode.svc_end.Goals as goal

pub returns : goal.returns
returns g c =
    let b = g.N.Node.does in
    written-opened b c.self.inside.nodes c.close.new.nodes c.self.inside.ended 64 c.args.self.now
    (c.close.ensures ∙ ap (map b.opening) c.deref_mut.ensures.value) c.self.view_is
