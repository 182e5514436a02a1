-- What `min` and `max` send for a whole list.
use Rattle.std.specs.Prelude.{◌≡◌, ℕ, List, [], ◌∷◌, Option, Some, is_none, ℤ, ◌≤ℤ◌}
use Rattle.std.specs.List.{All, Contains, filter, filter_map}
use Rattle.ff_rec.specs.Lines.{Rec}
use Rattle.ff_node.specs.Behaviour.{node, node_rejected}
use Rattle.ff_ops.specs.Rows.{number_in}
use Rattle.ff_ops.specs.FoldOps.{fold_field, fold_node, one_number}
use Rattle.ff_ops.specs.declared.fold_op.FoldOp.{FoldOp}
use Rattle.ff_ops.specs.declared.fold_op.FoldOp.TheVariants.{Min, Max}

-- the numbers in field `f` of these records
abbrev pub numbers_in : ℕ → List Rec → List ℤ
numbers_in f xs = filter_map (number_in f) xs

-- the records without a number in field `f`
abbrev pub numberless : ℕ → List Rec → List Rec
numberless f xs = filter (λ x. is_none (number_in f x)) xs

-- it is one of these numbers, and none of them is less
pub record IsLeast (ns : List ℤ) (n : ℤ) : Type 0 where
  pub among : Contains ns n
  pub bound : All (λ m. n ≤ℤ m) ns

-- it is one of these numbers, and none of them is greater
pub record IsGreatest (ns : List ℤ) (n : ℤ) : Type 0 where
  pub among : Contains ns n
  pub bound : All (λ m. m ≤ℤ n) ns

-- such a number is sent, or nothing where there is no number at all
abbrev pub SendsThat : (List ℤ → ℤ → Type 0) → List ℤ → List Rec → Type 0
SendsThat Is [] sends = sends ≡ []
SendsThat Is (n ∷ ns) sends = (m : ℤ) × Is (n ∷ ns) m × (sends ≡ one_number (Some m))

-- `min` sends the least number
abbrev pub MinIsLeast : Type 0
MinIsLeast = (f : ℕ) (least : Option ℤ) (xs : List Rec)
    → SendsThat IsLeast (numbers_in f xs) (node fold_node (Min f least) xs)

-- `max` sends the greatest number
abbrev pub MaxIsGreatest : Type 0
MaxIsGreatest = (f : ℕ) (most : Option ℤ) (xs : List Rec)
    → SendsThat IsGreatest (numbers_in f xs) (node fold_node (Max f most) xs)

-- a fold over the numbers of a field rejects the records without one
abbrev pub RejectsNumberless : Type 0
RejectsNumberless = (o : FoldOp) (f : ℕ) (xs : List Rec) → fold_field o ≡ Some f
    → node_rejected fold_node o xs ≡ numberless f xs
