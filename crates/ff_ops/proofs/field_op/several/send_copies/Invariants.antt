-- As many copies were sent as rounds are done.
use Rattle.std.proofs.Common.{◌≡◌, [], replicate}
use Rattle.ff_node.specs.Sends.{add}
use Rattle.ff_ops.proofs.field_op.several.send_copies.Given as goal

abbrev pub invariant-loop : goal.invariant-loop
invariant-loop l = l.out ≡ add l.initial.out (replicate l.counter l.r) []
