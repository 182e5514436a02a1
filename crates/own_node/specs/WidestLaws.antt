-- Two records lead to one state in either order: so it is a Fold.
use Rattle.std.specs.Prelude.{◌≡◌, ℕ, max, length, refl}
use Rattle.std.proofs.Common.{arith}
use Rattle.ff_node.specs.Behaviour.{KeepsKind}
use Rattle.ff_node.specs.Classes.{ClassLaw, reached}
use Rattle.ff_ops.specs.FoldLaws.{IsFoldNode-steps}
use Rattle.own_node.specs.Widest.{widest_node}

max-swap : (s a b : ℕ) → max (max s a) b ≡ max (max s b) a
max-swap s a b = omega arith

pub widest_keeps_kind : KeepsKind widest_node
widest_keeps_kind = record { opening_of_opening = λ s. refl; opening_of_next = λ s x. refl; class_of_opening = λ s. refl }

pub widest_class_law : (s : ℕ) → ClassLaw widest_node s (widest_node.class s)
widest_class_law s = IsFoldNode-steps widest_node s (record {
  sends = λ ys x. refl;
  ends = λ ys x. refl;
  rejects = λ ys x. refl;
  last_rejects = λ ys. refl;
  swaps = λ ys x y. max-swap (reached widest_node s ys) (length x) (length y);
})
