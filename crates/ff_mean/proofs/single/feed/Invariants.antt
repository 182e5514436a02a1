use Rattle.std.proofs.Common.{◌≡◌, length}
use Rattle.ff_node.specs.Behaviour.{sent_from, rejected_from}
use Rattle.ff_node.specs.Sends.{add}
use Rattle.ff_mean.proofs.single.feed.Given as goal

-- what is still to come completes what was gathered
abbrev pub invariant-loop-r : goal.invariant-loop-r
invariant-loop-r g l =
    add l.out (sent_from g.N.Node.does l.runner l.input) (rejected_from g.N.Node.does l.runner l.input)
    ≡ add l.initial.out (sent_from g.N.Node.does l.initial.runner l.initial.input) (rejected_from g.N.Node.does l.initial.runner l.initial.input)

abbrev pub decreases-loop-r : goal.decreases-loop-r
decreases-loop-r g l = length l.input
