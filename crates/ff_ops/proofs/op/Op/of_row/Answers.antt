-- Arguments that fit a row are read with its name.
use Rattle.std.proofs.Common.{ap, ◌∙◌}
use Rattle.ff_ops.specs.Families.{family_of}
use Rattle.ff_ops.proofs.Openings.{IsRead-made}
use Rattle.ff_ops.proofs.op.Op.of_row.Goals as goal

pub invariant_of-result : goal.invariant_of-result
invariant_of-result c =
    IsRead-made c.args.row c.args.args.items c.in_ok-family.family c.requires
    (c.in_ok-family.ensures ∙ ap (family_of c.args.row) c.deref.ensures.value)
