-- The node goes on, or it ended.
use Rattle.std.proofs.Common.{◌∙◌, sym, ap}
use Rattle.ff_node.specs.Next.{is_eos}
use Rattle.ff_mean.proofs.NodeSteps.{feed-on, feed-ended}
use Rattle.ff_mean.proofs.single.feed.Goals as goal

pub loop-r-preserved : goal.loop-r-preserved
loop-r-preserved g c =
    feed-on g.N.Node.does c.loop-r.runner c.svc.new.self c.loop-r.out c.svc.new.out c.in-Some.r c.loop-r.input c.take_first.new.self c.in-Some.ensures
    (sym (ap is_eos c.in-GoOn.is) ∙ c.in_ok-svc.ensures.mark) c.in_ok-svc.ensures.state c.in_ok-svc.ensures.sends
    ∙ c.loop-r.invariant

pub returns-in-Eos : goal.returns-in-Eos
returns-in-Eos g c =
    feed-ended g.N.Node.does c.loop-r.runner c.svc.new.self c.loop-r.out c.svc.new.out c.in-Some.r c.loop-r.input c.take_first.new.self c.in-Some.ensures
    (sym (ap is_eos c.in-Eos.is) ∙ c.in_ok-svc.ensures.mark) c.in_ok-svc.ensures.state c.in_ok-svc.ensures.sends
    ∙ c.loop-r.invariant
