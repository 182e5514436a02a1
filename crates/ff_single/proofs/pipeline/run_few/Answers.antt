-- The only node, or the comb of all nodes, stands for the network.
use Rattle.std.proofs.Common.{refl, sym, ◌∙◌}
use Rattle.ff_net.specs.Tree.{tree_of}
use Rattle.ff_mean.proofs.Groups.{only-last}
use Rattle.ff_stream.specs.Jobs.{job}
use Rattle.ff_single.proofs.Pipelines.{IsNodeOf-comb, IsNodeOf-one}
use Rattle.ff_single.proofs.pipeline.run_few.Goals as goal

pub returns-in-Some-clause-run : goal.returns-in-Some-clause-run
returns-in-Some-clause-run g c =
    let net = tree_of c.args.checked.now.net in
    let one = only-last c.pop.new.self.items c.args.nodes.items c.in-Some.node c.in-Some.ensures.items (sym c.args.nodes.ok.0 ∙ sym c.len.ensures ∙ c.in-1.is) in
    λ limit. c.run_stream.ensures.run (job g.N.Node.does net c.args.checked.now.version limit c.args.keep) (sym c.version-version.ensures) refl
    (IsNodeOf-one g.N.Node.does net g.M.Node.does c.args.nodes.items c.in-Some.node one c.requires.stand)

pub returns-in_default-clause-run : goal.returns-in_default-clause-run
returns-in_default-clause-run g c =
    let net = tree_of c.args.checked.now.net in
    λ limit. c.run_stream-in_default.ensures.run (job g.N.Node.does net c.args.checked.now.version limit c.args.keep) (sym c.version-version.ensures) refl
    (rw c.new-comb.ensures (IsNodeOf-comb g.N.Node.does net g.M.Node.does c.comb_is_composition.ensures.line c.args.nodes.items c.requires.stand))
