-- Whatever follows, the same is gathered in all.
use Rattle.ff_node.proofs.FeedsLaws.{in_all-feeds}
use Rattle.ff_stream.proofs.flow.steps.step.Goals as goal

pub returns : goal.returns
returns g c =
    rw c.is_eos.ensures
    (in_all-feeds g.M.Node.does c.args.node.now c.node_step.new.node c.args.out.now c.node_step.new.out c.args.r c.in_ok-next.next c.in_ok-next.ensures.fed)
