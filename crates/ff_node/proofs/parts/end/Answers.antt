use Rattle.ff_node.specs.Comb.{part}
use Rattle.ff_node.specs.Sends.{rejects_alone}
use Rattle.ff_node.proofs.PartsSteps.{add-end_runs, add-end_ended}
use Rattle.ff_node.proofs.parts.end.Goals as goal

pub returns-in_ok-eos_notify-clause-sends : goal.returns-in_ok-eos_notify-clause-sends
returns-in_ok-eos_notify-clause-sends g c =
    add-end_runs g.N.Node.does (part c.args.node.now c.args.ended.now) c.feed.new.node c.feed.new.ended c.args.out.now.sends (rejects_alone c.args.out.now)
    c.feed.new.out c.eos_notify.new.out c.if-not-ended.true c.in_ok-feed.ensures.state c.in_ok-feed.ensures.sends c.in_ok-eos_notify.ensures.sends

pub returns-else-not-ended-clause-sends : goal.returns-else-not-ended-clause-sends
returns-else-not-ended-clause-sends g c =
    add-end_ended g.N.Node.does (part c.args.node.now c.args.ended.now) c.feed.new.node c.feed.new.ended c.args.out.now.sends (rejects_alone c.args.out.now)
    c.feed.new.out c.if-not-ended.false c.in_ok-feed.ensures.state c.in_ok-feed.ensures.sends
