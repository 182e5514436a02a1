-- What is fixed of the operations for which the order matters.
use Rattle.std.specs.Prelude.{◌≡◌, Bool, true, false, cond, is_some, refl}
use Rattle.ff_rec.specs.Lines.{Rec}
use Rattle.ff_node.specs.Behaviour.{KeepsKind}
use Rattle.ff_node.specs.Classes.{ClassLaw}
use Rattle.ff_ops.specs.OrderedOps.{ordered_answer, after_sent, ordered_next, ordered_opening, ordered_node}
use Rattle.ff_ops.specs.declared.ordered_op.OrderedOp.{OrderedOp}
use Rattle.ff_ops.specs.declared.ordered_op.OrderedOp.TheVariants.{Number}

ordered_opening-opening : (o : OrderedOp) → ordered_opening (ordered_opening o) ≡ ordered_opening o
ordered_opening-opening (Number n) = refl
ordered_opening-opening o = refl

ordered_opening-after_sent : (o : OrderedOp) (r : Rec) → ordered_opening (after_sent o r) ≡ ordered_opening o
ordered_opening-after_sent (Number n) r = refl
ordered_opening-after_sent o r = refl

-- a record that is sent or rejected doesn't change the opening state
ordered_opening-next : (o : OrderedOp) (r : Rec) → ordered_opening (ordered_next o r) ≡ ordered_opening o
ordered_opening-next o r = by (is_some (ordered_answer o r))
  where
    by : (sent : Bool) → ordered_opening (cond sent (after_sent o r) o) ≡ ordered_opening o
    by true = ordered_opening-after_sent o r
    by false = refl

-- what such an operation does is fixed when it is made
pub ordered_keeps_kind : KeepsKind ordered_node
ordered_keeps_kind = record { opening_of_opening = ordered_opening-opening; opening_of_next = ordered_opening-next; class_of_opening = λ o. refl }

-- nothing is promised of the class
pub ordered_class_law : (o : OrderedOp) → ClassLaw ordered_node o (ordered_node.class o)
ordered_class_law o = tt
