-- The opening state of a copy is that of the operation.
use Rattle.std.proofs.Common.{◌∙◌}
use Rattle.ff_ops.proofs.Openings.{IsRead-copy}
use Rattle.ff_ops.proofs.op.node.OpNode.copy.Goals as goal

pub invariant_of-result : goal.invariant_of-result
invariant_of-result c =
    IsRead-copy c.self.inside.row c.self.inside.args.items c.in_ok-copies.field-0.items c.self.inside.family c.in_ok-copy.field-0
    c.self.invariant (c.in_ok-copies.ensures ∙ c.deref.ensures.value) c.in_ok-copy.ensures
