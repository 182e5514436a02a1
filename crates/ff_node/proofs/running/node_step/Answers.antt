use Rattle.ff_node.proofs.FeedsLaws.{Feeds-ended}
use Rattle.ff_node.proofs.running.node_step.Goals as goal

pub returns-in_ok-node_end-in-Eos-clause-fed : goal.returns-in_ok-node_end-in-Eos-clause-fed
returns-in_ok-node_end-in-Eos-clause-fed g c =
    Feeds-ended g.N.Node.does c.args.node.now c.svc.new.self c.node_end.new.node c.args.out.now c.svc.new.out c.node_end.new.out c.args.r c.in_ok-next.next
    c.in-Eos.is c.in_ok-next.ensures.mark c.in_ok-next.ensures.state c.in_ok-next.ensures.sends
    c.in_ok-node_end-in-Eos.ensures.ended c.in_ok-node_end-in-Eos.ensures.sends
