-- What was gathered is what the network means.
use Rattle.std.proofs.Common.{subst, ap}
use Rattle.std.specs.Prelude.{Some}
use Rattle.ff_net.specs.Tree.{Tree, tree_of}
use Rattle.ff_mean.specs.Gathering.{HasRunNet}
use Rattle.ff_mean.proofs.WholeNets.{IsMeant-gathered}
use Rattle.ff_mean.proofs.network.run_one.Goals as goal

pub returns : goal.returns
returns g c =
    let b = g.N.Node.does in
    let before = c.new-out.result in
    let after = c.run_net.new.out in
    let told = subst (λ answer. HasRunNet b c.args.limit (tree_of c.net.result.now) c.args.input before after answer) c.in-Some.is c.in_ok-sent.ensures in
    let ran = subst (λ (t : Tree g.row.N.Denot). HasRunNet b c.args.limit t c.args.input before after (Some c.in-Some.sent)) (ap tree_of c.net.ensures.net) told in
    IsMeant-gathered b c.args.limit c.args.keep (tree_of c.args.checked.now.net) c.args.input c.in-Some.sent c.rejects.result c.take_kept.result before after
    c.new-out.ensures ran c.rejects.ensures.number c.take_kept.ensures.kept
