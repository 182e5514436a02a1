-- The folds: they send at the end alone, and the order of the records doesn't matter. Each by its row.
use Rattle.std.specs.Prelude.{◌≡◌, ℕ, ◌+◌, ◌-◌, ◌^◌, Bool, true, false, min, if◌then◌else◌, List, [], ◌∷◌, Option, None, Some, ℤ, pos, negsuc, ◌-ℤ◌, int_le}
use Rattle.ff_rec.specs.Lines.{Rec}
use Rattle.ff_rec.specs.Number.{printed}
use Rattle.ff_node.specs.Behaviour.{Behaviour}
use Rattle.ff_node.specs.declared.class.Class.TheVariants.{Fold}
use Rattle.ff_ops.specs.Rows.{number_in}
use Rattle.ff_ops.specs.declared.fold_op.FoldOp.{FoldOp}
use Rattle.ff_ops.specs.declared.fold_op.FoldOp.TheVariants.{Tally, Total, Min, Max}

-- a sum that stands still at 2^126
abbrev pub capped_sum : ℕ → ℕ → ℕ
capped_sum a b = min (a + b) (2 ^ 126)

-- the numbers above 0, and the absolute values of those below
abbrev pub above : ℤ → ℕ
above (pos n) = n
above (negsuc n) = 0

abbrev pub below : ℤ → ℕ
below (pos n) = 0
below (negsuc n) = n + 1

-- the lesser and the greater of what was seen, if anything was, and a number
abbrev pub lesser : Option ℤ → ℤ → ℤ
lesser None x = x
lesser (Some least) x = if int_le least x then least else x

abbrev pub greater : Option ℤ → ℤ → ℤ
greater None x = x
greater (Some most) x = if int_le x most then most else x

-- the state after a number of the field
abbrev pub fold_number : FoldOp → ℤ → FoldOp
fold_number (Tally n) x = Tally n
fold_number (Total f plus minus) x = Total f (capped_sum plus (above x)) (capped_sum minus (below x))
fold_number (Min f least) x = Min f (Some (lesser least x))
fold_number (Max f most) x = Max f (Some (greater most x))

-- the field whose number a fold needs; `tally` needs none
abbrev pub fold_field : FoldOp → Option ℕ
fold_field (Tally n) = None
fold_field (Total f plus minus) = Some f
fold_field (Min f least) = Some f
fold_field (Max f most) = Some f

-- `tally` counts the record, up to 2^64 - 1
abbrev pub fold_record : FoldOp → FoldOp
fold_record (Tally n) = Tally (min (n + 1) (2 ^ 64 - 1))
fold_record (Total f plus minus) = Total f plus minus
fold_record (Min f least) = Min f least
fold_record (Max f most) = Max f most

-- the state after a record whose number is this, if it has one
abbrev pub fold_if_number : FoldOp → Option ℤ → FoldOp
fold_if_number o None = o
fold_if_number o (Some x) = fold_number o x

abbrev pub fold_at : FoldOp → Option ℕ → Rec → FoldOp
fold_at o None r = fold_record o
fold_at o (Some f) r = fold_if_number o (number_in f r)

abbrev pub fold_next : FoldOp → Rec → FoldOp
fold_next o r = fold_at o (fold_field o) r

-- a record without the number that is needed is rejected
abbrev pub rejects_without : Option ℤ → Rec → List Rec
rejects_without None r = r ∷ []
rejects_without (Some x) r = []

abbrev pub rejects_at : Option ℕ → Rec → List Rec
rejects_at None r = []
rejects_at (Some f) r = rejects_without (number_in f r) r

-- a record is taken into the state, or else it is rejected
abbrev pub KeepsOrRejects : FoldOp → Rec → Bool → Type 0
KeepsOrRejects o r true = rejects_at (fold_field o) r ≡ []
KeepsOrRejects o r false = rejects_at (fold_field o) r ≡ r ∷ []

-- one record of one number, or none
abbrev pub one_number : Option ℤ → List Rec
one_number None = []
one_number (Some n) = (printed n ∷ []) ∷ []

-- what comes at the end
abbrev pub fold_last : FoldOp → List Rec
fold_last (Tally n) = one_number (Some (pos n))
fold_last (Total f plus minus) = one_number (Some (pos (min plus (2 ^ 126)) -ℤ pos (min minus (2 ^ 126))))
fold_last (Min f least) = one_number least
fold_last (Max f most) = one_number most

-- the opening states
abbrev pub fold_opening : FoldOp → FoldOp
fold_opening (Tally n) = Tally 0
fold_opening (Total f plus minus) = Total f 0 0
fold_opening (Min f least) = Min f None
fold_opening (Max f most) = Max f None

abbrev pub fold_node : Behaviour FoldOp
fold_node = record {
  class = λ o. Fold;
  opening = fold_opening;
  sends = λ o r. [];
  rejects = λ o r. rejects_at (fold_field o) r;
  next = fold_next;
  ends = λ o r. false;
  last = fold_last;
  last_rejects = λ o. [];
}
