-- A family keeps the laws of its operations.
use Rattle.std.specs.Prelude.{◌≡◌, refl}
use Rattle.std.proofs.Common.{ap}
use Rattle.ff_rec.specs.Lines.{Rec}
use Rattle.ff_node.specs.Behaviour.{KeepsKind}
use Rattle.ff_node.specs.Classes.{ClassLaw}
use Rattle.ff_ops.specs.NumberOps.{number_node}
use Rattle.ff_ops.specs.NumberLaws.{number_keeps_kind, number_class_law}
use Rattle.ff_ops.specs.FieldOps.{field_node}
use Rattle.ff_ops.specs.FieldLaws.{field_keeps_kind, field_class_law}
use Rattle.ff_ops.specs.OrderedOps.{ordered_node}
use Rattle.ff_ops.specs.OrderedLaws.{ordered_keeps_kind, ordered_class_law}
use Rattle.ff_ops.specs.FoldOps.{fold_node}
use Rattle.ff_ops.specs.FoldOpLaws.{fold_keeps_kind, fold_class_law}
use Rattle.ff_ops.specs.KeyedOps.{keyed_node}
use Rattle.ff_ops.specs.KeyedOpLaws.{keyed_keeps_kind, keyed_class_law}
use Rattle.ff_ops.specs.Families.{family_opening, family_next, family_class, family_node}
use Rattle.ff_ops.specs.PartLaws.{IsPart, class_law-at}
use Rattle.ff_ops.specs.declared.number_op.NumberOp.{NumberOp}
use Rattle.ff_ops.specs.declared.field_op.FieldOp.{FieldOp}
use Rattle.ff_ops.specs.declared.ordered_op.OrderedOp.{OrderedOp}
use Rattle.ff_ops.specs.declared.fold_op.FoldOp.{FoldOp}
use Rattle.ff_ops.specs.declared.keyed_op.KeyedOp.{KeyedOp}
use Rattle.ff_ops.specs.declared.family.Family.{Family}
use Rattle.ff_ops.specs.declared.family.Family.TheVariants.{Number, Field, Ordered, Fold, Keyed}

pub family_opening-opening : (o : Family) → family_opening (family_opening o) ≡ family_opening o
family_opening-opening (Number o) = ap (λ (s : NumberOp). Number s) (number_keeps_kind.opening_of_opening o)
family_opening-opening (Field o) = ap (λ (s : FieldOp). Field s) (field_keeps_kind.opening_of_opening o)
family_opening-opening (Ordered o) = ap (λ (s : OrderedOp). Ordered s) (ordered_keeps_kind.opening_of_opening o)
family_opening-opening (Fold o) = ap (λ (s : FoldOp). Fold s) (fold_keeps_kind.opening_of_opening o)
family_opening-opening (Keyed o) = ap (λ (s : KeyedOp). Keyed s) (keyed_keeps_kind.opening_of_opening o)

family_opening-next : (o : Family) (r : Rec) → family_opening (family_next o r) ≡ family_opening o
family_opening-next (Number o) r = ap (λ (s : NumberOp). Number s) (number_keeps_kind.opening_of_next o r)
family_opening-next (Field o) r = ap (λ (s : FieldOp). Field s) (field_keeps_kind.opening_of_next o r)
family_opening-next (Ordered o) r = ap (λ (s : OrderedOp). Ordered s) (ordered_keeps_kind.opening_of_next o r)
family_opening-next (Fold o) r = ap (λ (s : FoldOp). Fold s) (fold_keeps_kind.opening_of_next o r)
family_opening-next (Keyed o) r = ap (λ (s : KeyedOp). Keyed s) (keyed_keeps_kind.opening_of_next o r)

family_class-opening : (o : Family) → family_class (family_opening o) ≡ family_class o
family_class-opening (Number o) = number_keeps_kind.class_of_opening o
family_class-opening (Field o) = field_keeps_kind.class_of_opening o
family_class-opening (Ordered o) = ordered_keeps_kind.class_of_opening o
family_class-opening (Fold o) = fold_keeps_kind.class_of_opening o
family_class-opening (Keyed o) = keyed_keeps_kind.class_of_opening o

-- what a family does is fixed when it is made
pub family_keeps_kind : KeepsKind family_node
family_keeps_kind = record { opening_of_opening = family_opening-opening; opening_of_next = family_opening-next; class_of_opening = family_class-opening }

number_part : IsPart number_node family_node (λ s. Number s)
number_part = record { opening = λ s. refl; sends = λ s r. refl; rejects = λ s r. refl; next = λ s r. refl; ends = λ s r. refl; last = λ s. refl; last_rejects = λ s. refl }

field_part : IsPart field_node family_node (λ s. Field s)
field_part = record { opening = λ s. refl; sends = λ s r. refl; rejects = λ s r. refl; next = λ s r. refl; ends = λ s r. refl; last = λ s. refl; last_rejects = λ s. refl }

ordered_part : IsPart ordered_node family_node (λ s. Ordered s)
ordered_part = record { opening = λ s. refl; sends = λ s r. refl; rejects = λ s r. refl; next = λ s r. refl; ends = λ s r. refl; last = λ s. refl; last_rejects = λ s. refl }

fold_part : IsPart fold_node family_node (λ s. Fold s)
fold_part = record { opening = λ s. refl; sends = λ s r. refl; rejects = λ s r. refl; next = λ s r. refl; ends = λ s r. refl; last = λ s. refl; last_rejects = λ s. refl }

keyed_part : IsPart keyed_node family_node (λ s. Keyed s)
keyed_part = record { opening = λ s. refl; sends = λ s r. refl; rejects = λ s r. refl; next = λ s r. refl; ends = λ s r. refl; last = λ s. refl; last_rejects = λ s. refl }

-- the law of the class
pub family_class_law : (o : Family) → ClassLaw family_node o (family_node.class o)
family_class_law (Number o) = class_law-at number_node family_node (λ s. Number s) number_part (number_node.class o) o (number_class_law o)
family_class_law (Field o) = class_law-at field_node family_node (λ s. Field s) field_part (field_node.class o) o (field_class_law o)
family_class_law (Ordered o) = class_law-at ordered_node family_node (λ s. Ordered s) ordered_part (ordered_node.class o) o (ordered_class_law o)
family_class_law (Fold o) = class_law-at fold_node family_node (λ s. Fold s) fold_part (fold_node.class o) o (fold_class_law o)
family_class_law (Keyed o) = class_law-at keyed_node family_node (λ s. Keyed s) keyed_part (keyed_node.class o) o (keyed_class_law o)
