-- An operation keeps the laws of its family.
use Rattle.std.specs.Prelude.{refl}
use Rattle.std.proofs.Common.{ap}
use Rattle.ff_node.specs.Behaviour.{KeepsKind}
use Rattle.ff_node.specs.Classes.{ClassLaw}
use Rattle.ff_ops.specs.Families.{family_node}
use Rattle.ff_ops.specs.FamilyLaws.{family_keeps_kind, family_class_law}
use Rattle.ff_ops.specs.Operation.{OpState, op_node}
use Rattle.ff_ops.specs.PartLaws.{IsPart, class_law-at}
use Rattle.ff_ops.specs.declared.family.Family.{Family}

-- what an operation does is fixed when it is made
pub op_keeps_kind : KeepsKind op_node
op_keeps_kind = record {
  opening_of_opening = λ o. ap (λ (f : Family). record o { family = f }) (family_keeps_kind.opening_of_opening o.family);
  opening_of_next = λ o r. ap (λ (f : Family). record o { family = f }) (family_keeps_kind.opening_of_next o.family r);
  class_of_opening = λ o. family_keeps_kind.class_of_opening o.family;
}

family_part : (o : OpState) → IsPart family_node op_node (λ (f : Family). record o { family = f })
family_part o = record { opening = λ s. refl; sends = λ s r. refl; rejects = λ s r. refl; next = λ s r. refl; ends = λ s r. refl; last = λ s. refl; last_rejects = λ s. refl }

-- the law of the class
pub op_class_law : (o : OpState) → ClassLaw op_node o (op_node.class o)
op_class_law o =
    class_law-at family_node op_node (λ (f : Family). record o { family = f }) (family_part o) (family_node.class o.family) o.family (family_class_law o.family)
