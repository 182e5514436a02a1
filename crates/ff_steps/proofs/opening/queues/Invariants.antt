-- The queues of the edges so far.
use Rattle.std.proofs.Common.{◌≡◌, take}
use Rattle.ff_steps.specs.NetCores.{edge_queues}
use Rattle.ff_steps.proofs.opening.queues.Given as goal

abbrev pub invariant-loop-edge : goal.invariant-loop-edge
invariant-loop-edge l = l.queues.items ≡ edge_queues (take l.edge-index l.edges)
