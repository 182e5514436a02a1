-- The laws of the folds of the table: what is fixed of them, and that two records lead to one state in either order.
use Rattle.std.specs.Prelude.{◌≡◌, ℕ, ◌+◌, ◌^◌, min, List, [], ◌∷◌, Option, None, Some, ℤ, refl}
use Rattle.std.proofs.Common.{◌∙◌, sym, ap, ap₂, arith}
use Rattle.std.proofs.lemmas.Int.{ints}
use Rattle.ff_rec.specs.Lines.{Rec}
use Rattle.ff_node.specs.Behaviour.{KeepsKind, state_from}
use Rattle.ff_node.specs.Classes.{ClassLaw, reached}
use Rattle.ff_ops.specs.Rows.{number_in}
use Rattle.ff_ops.specs.FoldOps.{capped_sum, above, below, lesser, greater, fold_if_number, fold_at, fold_field, fold_next, fold_opening, fold_node, rejects_at}
use Rattle.ff_ops.specs.FoldLaws.{IsFoldNode-steps}
use Rattle.ff_ops.specs.declared.fold_op.FoldOp.{FoldOp}
use Rattle.ff_ops.specs.declared.fold_op.FoldOp.TheVariants.{Tally, Total, Min, Max}

-- a number changes neither the field nor the opening state
fold_field-if_number : (o : FoldOp) (n : Option ℤ) → fold_field (fold_if_number o n) ≡ fold_field o
fold_field-if_number o None = refl
fold_field-if_number (Tally n) (Some x) = refl
fold_field-if_number (Total f plus minus) (Some x) = refl
fold_field-if_number (Min f least) (Some x) = refl
fold_field-if_number (Max f most) (Some x) = refl

fold_opening-if_number : (o : FoldOp) (n : Option ℤ) → fold_opening (fold_if_number o n) ≡ fold_opening o
fold_opening-if_number o None = refl
fold_opening-if_number (Tally n) (Some x) = refl
fold_opening-if_number (Total f plus minus) (Some x) = refl
fold_opening-if_number (Min f least) (Some x) = refl
fold_opening-if_number (Max f most) (Some x) = refl

-- nor does a record
pub fold_field-next : (o : FoldOp) (r : Rec) → fold_field (fold_next o r) ≡ fold_field o
fold_field-next (Tally n) r = refl
fold_field-next (Total f plus minus) r = fold_field-if_number (Total f plus minus) (number_in f r)
fold_field-next (Min f least) r = fold_field-if_number (Min f least) (number_in f r)
fold_field-next (Max f most) r = fold_field-if_number (Max f most) (number_in f r)

pub fold_opening-next : (o : FoldOp) (r : Rec) → fold_opening (fold_next o r) ≡ fold_opening o
fold_opening-next (Tally n) r = refl
fold_opening-next (Total f plus minus) r = fold_opening-if_number (Total f plus minus) (number_in f r)
fold_opening-next (Min f least) r = fold_opening-if_number (Min f least) (number_in f r)
fold_opening-next (Max f most) r = fold_opening-if_number (Max f most) (number_in f r)

fold_opening-opening : (o : FoldOp) → fold_opening (fold_opening o) ≡ fold_opening o
fold_opening-opening (Tally n) = refl
fold_opening-opening (Total f plus minus) = refl
fold_opening-opening (Min f least) = refl
fold_opening-opening (Max f most) = refl

-- what a fold does is fixed when it is made
pub fold_keeps_kind : KeepsKind fold_node
fold_keeps_kind = record { opening_of_opening = fold_opening-opening; opening_of_next = fold_opening-next; class_of_opening = λ o. refl }

-- a capped sum takes two numbers in either order
capped-swap : (c n a b : ℕ) → min (min (n + a) c + b) c ≡ min (min (n + b) c + a) c
capped-swap c n a b = omega arith

capped_sum-swap : (n a b : ℕ) → capped_sum (capped_sum n a) b ≡ capped_sum (capped_sum n b) a
capped_sum-swap n a b = capped-swap (2 ^ 126) n a b

lesser-swap : (l : Option ℤ) (x y : ℤ) → lesser (Some (lesser l x)) y ≡ lesser (Some (lesser l y)) x
lesser-swap None x y = grind (arith, ints)
lesser-swap (Some l) x y = grind (arith, ints)

greater-swap : (l : Option ℤ) (x y : ℤ) → greater (Some (greater l x)) y ≡ greater (Some (greater l y)) x
greater-swap None x y = grind (arith, ints)
greater-swap (Some l) x y = grind (arith, ints)

-- two numbers, where they are there, lead to one state in either order
fold_if_number-swap : (o : FoldOp) (m n : Option ℤ) → fold_if_number (fold_if_number o m) n ≡ fold_if_number (fold_if_number o n) m
fold_if_number-swap o None n = refl
fold_if_number-swap o (Some x) None = refl
fold_if_number-swap (Tally n) (Some x) (Some y) = refl
fold_if_number-swap (Total f plus minus) (Some x) (Some y) =
    ap₂ (λ (p m : ℕ). Total f p m) (capped_sum-swap plus (above x) (above y)) (capped_sum-swap minus (below x) (below y))
fold_if_number-swap (Min f least) (Some x) (Some y) = ap (λ (z : ℤ). Min f (Some z)) (lesser-swap least x y)
fold_if_number-swap (Max f most) (Some x) (Some y) = ap (λ (z : ℤ). Max f (Some z)) (greater-swap most x y)

-- the state after a second record
fold_next-if_number : (o : FoldOp) (f : ℕ) (n : Option ℤ) (r : Rec) → fold_field o ≡ Some f → fold_next (fold_if_number o n) r ≡ fold_if_number (fold_if_number o n) (number_in f r)
fold_next-if_number o f n r is = ap (λ (k : Option ℕ). fold_at (fold_if_number o n) k r) (fold_field-if_number o n ∙ is)

-- two records lead to one state in either order
field-swap : (o : FoldOp) (f : ℕ) (x y : Rec) → fold_field o ≡ Some f → fold_next (fold_if_number o (number_in f x)) y ≡ fold_next (fold_if_number o (number_in f y)) x
field-swap o f x y is =
    fold_next-if_number o f (number_in f x) y is
    ∙ fold_if_number-swap o (number_in f x) (number_in f y)
    ∙ sym (fold_next-if_number o f (number_in f y) x is)

fold_next-swap : (o : FoldOp) (x y : Rec) → fold_next (fold_next o x) y ≡ fold_next (fold_next o y) x
fold_next-swap (Tally n) x y = refl
fold_next-swap (Total f plus minus) x y = field-swap (Total f plus minus) f x y refl
fold_next-swap (Min f least) x y = field-swap (Min f least) f x y refl
fold_next-swap (Max f most) x y = field-swap (Max f most) f x y refl

-- the field stays the same on the way
fold_field-reached : (o : FoldOp) (ys : List Rec) → fold_field (state_from fold_node o ys) ≡ fold_field o
fold_field-reached o [] = refl
fold_field-reached o (y ∷ ys) = fold_field-reached (fold_next o y) ys ∙ fold_field-next o y

-- the law of the class
pub fold_class_law : (o : FoldOp) → ClassLaw fold_node o (fold_node.class o)
fold_class_law o = IsFoldNode-steps fold_node o (record {
  sends = λ ys x. refl;
  ends = λ ys x. refl;
  rejects = λ ys x. ap (λ (k : Option ℕ). rejects_at k x) (fold_field-reached (fold_opening o) ys);
  last_rejects = λ ys. refl;
  swaps = λ ys. fold_next-swap (reached fold_node o ys);
})
