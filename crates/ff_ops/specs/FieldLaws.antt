-- These operations have no state, so what each does is fixed, and each is a Plain node.
use Rattle.std.specs.Prelude.{refl}
use Rattle.ff_node.specs.Behaviour.{KeepsKind}
use Rattle.ff_node.specs.Classes.{ClassLaw}
use Rattle.ff_node.specs.Stateless.{IsStateless, KeepsKind-stateless, IsPlainNode-stateless}
use Rattle.ff_ops.specs.FieldOps.{field_node}
use Rattle.ff_ops.specs.declared.field_op.FieldOp.{FieldOp}

field_stateless : IsStateless field_node
field_stateless = record { opening = λ o. refl; next = λ o r. refl; ends = λ o r. refl; last = λ o. refl; last_rejects = λ o. refl }

pub field_keeps_kind : KeepsKind field_node
field_keeps_kind = KeepsKind-stateless field_node field_stateless

pub field_class_law : (o : FieldOp) → ClassLaw field_node o (field_node.class o)
field_class_law o = IsPlainNode-stateless field_node field_stateless o
