-- The numbers so far.
use Rattle.std.proofs.Common.{◌≡◌, take}
use Rattle.ff_steps.proofs.row.numbers.Given as goal

abbrev pub invariant-loop-edge : goal.invariant-loop-edge
invariant-loop-edge l = l.numbers.items ≡ take l.edge-index l.edges
