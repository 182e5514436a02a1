-- It keeps the laws of what it is.
use Rattle.std.specs.Prelude.{◌≡◌, ℕ, refl}
use Rattle.std.proofs.Common.{ap}
use Rattle.ff_rec.specs.Lines.{Rec}
use Rattle.ff_node.specs.Behaviour.{KeepsKind}
use Rattle.ff_node.specs.Classes.{ClassLaw}
use Rattle.ff_ops.specs.Operation.{OpState, op_node}
use Rattle.ff_ops.specs.OperationLaws.{op_keeps_kind, op_class_law}
use Rattle.ff_ops.specs.PartLaws.{IsPart, class_law-at}
use Rattle.own_node.specs.Narrow.{narrow_node}
use Rattle.own_node.specs.NarrowLaws.{narrow_keeps_kind, narrow_class_law}
use Rattle.own_node.specs.Own.{own_class, own_opening, own_next, own_node}
use Rattle.own_node.specs.Widest.{widest_node}
use Rattle.own_node.specs.WidestLaws.{widest_keeps_kind, widest_class_law}
use Rattle.own_node.specs.declared.narrow.Narrow.{Narrow}
use Rattle.own_node.specs.declared.own.Own.{Own}
use Rattle.own_node.specs.declared.own.Own.TheVariants.{Limit, Count, Stock}

own_opening-opening : (o : Own) → own_opening (own_opening o) ≡ own_opening o
own_opening-opening (Limit s) = ap (λ (t : Narrow). Limit t) (narrow_keeps_kind.opening_of_opening s)
own_opening-opening (Count s) = ap (λ (t : ℕ). Count t) (widest_keeps_kind.opening_of_opening s)
own_opening-opening (Stock s) = ap (λ (t : OpState). Stock t) (op_keeps_kind.opening_of_opening s)

own_opening-next : (o : Own) (r : Rec) → own_opening (own_next o r) ≡ own_opening o
own_opening-next (Limit s) r = ap (λ (t : Narrow). Limit t) (narrow_keeps_kind.opening_of_next s r)
own_opening-next (Count s) r = ap (λ (t : ℕ). Count t) (widest_keeps_kind.opening_of_next s r)
own_opening-next (Stock s) r = ap (λ (t : OpState). Stock t) (op_keeps_kind.opening_of_next s r)

own_class-opening : (o : Own) → own_class (own_opening o) ≡ own_class o
own_class-opening (Limit s) = narrow_keeps_kind.class_of_opening s
own_class-opening (Count s) = widest_keeps_kind.class_of_opening s
own_class-opening (Stock s) = op_keeps_kind.class_of_opening s

pub own_keeps_kind : KeepsKind own_node
own_keeps_kind = record { opening_of_opening = own_opening-opening; opening_of_next = own_opening-next; class_of_opening = own_class-opening }

limit_part : IsPart narrow_node own_node (λ s. Limit s)
limit_part = record { opening = λ s. refl; sends = λ s r. refl; rejects = λ s r. refl; next = λ s r. refl; ends = λ s r. refl; last = λ s. refl; last_rejects = λ s. refl }

count_part : IsPart widest_node own_node (λ s. Count s)
count_part = record { opening = λ s. refl; sends = λ s r. refl; rejects = λ s r. refl; next = λ s r. refl; ends = λ s r. refl; last = λ s. refl; last_rejects = λ s. refl }

stock_part : IsPart op_node own_node (λ s. Stock s)
stock_part = record { opening = λ s. refl; sends = λ s r. refl; rejects = λ s r. refl; next = λ s r. refl; ends = λ s r. refl; last = λ s. refl; last_rejects = λ s. refl }

pub own_class_law : (o : Own) → ClassLaw own_node o (own_node.class o)
own_class_law (Limit s) = class_law-at narrow_node own_node (λ s. Limit s) limit_part (narrow_node.class s) s (narrow_class_law s)
own_class_law (Count s) = class_law-at widest_node own_node (λ s. Count s) count_part (widest_node.class s) s (widest_class_law s)
own_class_law (Stock s) = class_law-at op_node own_node (λ s. Stock s) stock_part (op_node.class s) s (op_class_law s)
