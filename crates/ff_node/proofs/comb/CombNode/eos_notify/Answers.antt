use Rattle.std.proofs.Common.{◌∙◌, map, ap}
use Rattle.ff_node.proofs.CombViews.{written-kept}
use Rattle.ff_node.proofs.comb.CombNode.eos_notify.Goals as goal

pub returns-clause-kind : goal.returns-clause-kind
returns-clause-kind g c =
    let b = g.N.Node.does in
    written-kept b c.self.inside.nodes c.finish.new.nodes c.self.inside.ended c.finish.new.ended c.args.self.now
    (c.finish.ensures.kind ∙ ap (map b.opening) c.deref_mut.ensures.value) c.self.view_is
