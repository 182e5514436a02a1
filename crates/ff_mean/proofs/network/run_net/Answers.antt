-- The outermost pipe is run part by part.
use Rattle.std.proofs.Common.{sym, subst}
use Rattle.ff_net.specs.Good.{Good, WrapsOnTop}
use Rattle.ff_net.specs.Tree.{Tree, tree_of, trees_of}
use Rattle.ff_mean.specs.Gathering.{HasRunNet, HasRunParts}
use Rattle.ff_mean.proofs.PartSteps.{IfOk-map}
use Rattle.ff_mean.proofs.WholeNets.{tree_of-parts}
use Rattle.ff_mean.proofs.network.run_net.Goals as goal

pub run_parts-requires-clause-good : goal.run_parts-requires-clause-good
run_parts-requires-clause-good g c =
    let good = subst (Good g.N.Node.does) (tree_of-parts c.args.net.now c.in-Pipe.parts c.deref.result.now c.in-Pipe.is c.deref.ensures.value) c.requires.good in
    good.1

pub run_parts-requires-clause-wraps : goal.run_parts-requires-clause-wraps
run_parts-requires-clause-wraps g c =
    subst WrapsOnTop (tree_of-parts c.args.net.now c.in-Pipe.parts c.deref.result.now c.in-Pipe.is c.deref.ensures.value) c.requires.wraps

pub returns-in-Pipe : goal.returns-in-Pipe
returns-in-Pipe g c =
    let b = g.N.Node.does in
    let parts = c.deref.result.now in
    let after = c.run_parts.new.out in
    let is = tree_of-parts c.args.net.now c.in-Pipe.parts parts c.in-Pipe.is c.deref.ensures.value in
    IfOk-map (λ answer. HasRunParts b c.args.limit (trees_of parts) c.args.input c.args.out.now after answer)
    (λ answer. HasRunNet b c.args.limit (tree_of c.args.net.now) c.args.input c.args.out.now after answer)
    (λ answer ran. subst (λ (t : Tree g.row.N.Denot). HasRunNet b c.args.limit t c.args.input c.args.out.now after answer) (sym is) ran)
    c.run_parts.result c.run_parts.ensures
