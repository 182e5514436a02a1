-- It has no state: so what it does is fixed, and it is a Plain node.
use Rattle.std.specs.Prelude.{refl}
use Rattle.ff_node.specs.Behaviour.{KeepsKind}
use Rattle.ff_node.specs.Classes.{ClassLaw}
use Rattle.ff_node.specs.Stateless.{IsStateless, KeepsKind-stateless, IsPlainNode-stateless}
use Rattle.own_node.specs.Narrow.{narrow_node}
use Rattle.own_node.specs.declared.narrow.Narrow.{Narrow}

narrow_stateless : IsStateless narrow_node
narrow_stateless = record { opening = λ s. refl; next = λ s x. refl; ends = λ s x. refl; last = λ s. refl; last_rejects = λ s. refl }

pub narrow_keeps_kind : KeepsKind narrow_node
narrow_keeps_kind = KeepsKind-stateless narrow_node narrow_stateless

pub narrow_class_law : (s : Narrow) → ClassLaw narrow_node s (narrow_node.class s)
narrow_class_law s = IsPlainNode-stateless narrow_node narrow_stateless s
