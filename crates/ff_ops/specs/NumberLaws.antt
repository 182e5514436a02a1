-- These operations have no state, so what they do is fixed, and they are Plain nodes.
use Rattle.std.specs.Prelude.{refl}
use Rattle.ff_node.specs.Behaviour.{KeepsKind}
use Rattle.ff_node.specs.Classes.{ClassLaw}
use Rattle.ff_node.specs.Stateless.{IsStateless, KeepsKind-stateless, IsPlainNode-stateless}
use Rattle.ff_ops.specs.NumberOps.{number_node}
use Rattle.ff_ops.specs.declared.number_op.NumberOp.{NumberOp}

number_stateless : IsStateless number_node
number_stateless = record { opening = λ o. refl; next = λ o r. refl; ends = λ o r. refl; last = λ o. refl; last_rejects = λ o. refl }

pub number_keeps_kind : KeepsKind number_node
number_keeps_kind = KeepsKind-stateless number_node number_stateless

pub number_class_law : (o : NumberOp) → ClassLaw number_node o (number_node.class o)
number_class_law o = IsPlainNode-stateless number_node number_stateless o
