-- A checked network is good, and so its plan has the law of every form.
use Rattle.std.proofs.Common.{[]}
use Rattle.ff_node.specs.CombLaws.{comb-is_pipeline}
use Rattle.ff_net.proofs.GoodNets.{good}
use Rattle.ff_net.proofs.Kept.{kept_whole}
use Rattle.ff_net.specs.Places.{whole}
use Rattle.ff_net.specs.Tree.{tree_of}
use Rattle.ff_plan.proofs.NetLaws.{law_net}
use Rattle.ff_plan.proofs.NodeFacts.{are_nodes}
use Rattle.ff_plan.proofs.Views.{whole_view}
use Rattle.ff_plan.proofs.WholeWraps.{law_wrap_whole}
use Rattle.ff_plan.proofs.WrapLogs.{log_laws}
use Rattle.ff_plan.proofs.laws.each_task_is_done_once.Goals as goal

pub returns : goal.returns
returns g c =
    let b = g.N.Node.does in
    let keeps = g.met.N.Node.keeps_kind in
    let law = g.met.N.Node.class_law in
    let t = tree_of c.args.checked.now.net in
    let is_good = good b c.args.checked.now.version whole [] t (kept_whole b c.args.checked.now.version t c.args.checked.now.kept) in
    λ m. log_laws b keeps law (comb-is_pipeline b) m t is_good
    (λ edge u u_good. law_net b (are_nodes b keeps law) m (whole_view b m edge)
    (λ n w p is. law_wrap_whole b keeps law (comb-is_pipeline b) m n w p is.2 is.3 edge) u u_good)
