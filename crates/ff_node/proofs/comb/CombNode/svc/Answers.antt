use Rattle.std.proofs.Common.{◌∙◌, map, ap}
use Rattle.ff_node.proofs.CombViews.{written-kept}
use Rattle.ff_node.proofs.comb.CombNode.svc.Goals as goal

pub returns-in_err-pass-clause-kind : goal.returns-in_err-pass-clause-kind
returns-in_err-pass-clause-kind g c =
    let b = g.N.Node.does in
    written-kept b c.self.inside.nodes c.pass.new.nodes c.self.inside.ended c.pass.new.ended c.args.self.now
    (c.pass.ensures.kind ∙ ap (map b.opening) c.deref_mut.ensures.value) c.self.view_is

pub returns-clause-kind : goal.returns-clause-kind
returns-clause-kind g c =
    let b = g.N.Node.does in
    written-kept b c.self.inside.nodes c.pass.new.nodes c.self.inside.ended c.pass.new.ended c.args.self.now
    (c.pass.ensures.kind ∙ ap (map b.opening) c.deref_mut.ensures.value) c.self.view_is
