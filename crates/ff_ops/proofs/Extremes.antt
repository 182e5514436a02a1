-- The least and the greatest number of a whole list.
use Rattle.std.proofs.Common.{◌≡◌, ℕ, List, [], ◌∷◌, ◌++◌, Option, None, Some, is_none, cond, ℤ, refl, sym, ap, subst, ◌∙◌, arith, ⊎_elim}
use Rattle.std.specs.Prelude.{◌≤ℤ◌, ◌⊎◌}
use Rattle.std.specs.Int.{int_min, int_max}
use Rattle.std.specs.List.{Contains, fold, cons_option}
use Rattle.std.proofs.lemmas.Int.{ints, fold-int_min_bounds, fold-int_min_reached, fold-int_max_bounds, fold-int_max_reached}
use Rattle.std.proofs.lemmas.List.Elements.{All-cons}
use Rattle.ff_rec.proofs.Rising.{Contains-first, Contains-rest}
use Rattle.ff_rec.specs.Lines.{Rec}
use Rattle.ff_node.specs.Behaviour.{sent_from, rejected_from}
use Rattle.ff_ops.specs.Extremes.{numbers_in, numberless, IsLeast, IsGreatest, SendsThat, MinIsLeast, MaxIsGreatest, RejectsNumberless}
use Rattle.ff_ops.specs.FoldOps.{lesser, greater, fold_field, fold_if_number, fold_next, fold_opening, fold_node, one_number, rejects_at, rejects_without}
use Rattle.ff_ops.specs.FoldOpLaws.{fold_field-next}
use Rattle.ff_ops.specs.Rows.{number_in}
use Rattle.ff_ops.specs.declared.fold_op.FoldOp.{FoldOp}
use Rattle.ff_ops.specs.declared.fold_op.FoldOp.TheVariants.{Tally, Total, Min, Max}

-- one number after another, from what was seen
abbrev chosen : (Option ℤ → ℤ → ℤ) → Option ℤ → List ℤ → Option ℤ
chosen choose o [] = o
chosen choose o (n ∷ ns) = chosen choose (Some (choose o n)) ns

sent_from-min : (f : ℕ) (o : Option ℤ) (xs : List Rec) → sent_from fold_node (Min f o) xs ≡ one_number (chosen lesser o (numbers_in f xs))
sent_from-min f o [] = refl
sent_from-min f o (x ∷ xs) = by (number_in f x) (λ p. sent_from-min f p xs)
  where
    by : (n : Option ℤ) → ((p : Option ℤ) → sent_from fold_node (Min f p) xs ≡ one_number (chosen lesser p (numbers_in f xs)))
        → sent_from fold_node (fold_if_number (Min f o) n) xs ≡ one_number (chosen lesser o (cons_option n (numbers_in f xs)))
    by None rest = rest o
    by (Some n) rest = rest (Some (lesser o n))

sent_from-max : (f : ℕ) (o : Option ℤ) (xs : List Rec) → sent_from fold_node (Max f o) xs ≡ one_number (chosen greater o (numbers_in f xs))
sent_from-max f o [] = refl
sent_from-max f o (x ∷ xs) = by (number_in f x) (λ p. sent_from-max f p xs)
  where
    by : (n : Option ℤ) → ((p : Option ℤ) → sent_from fold_node (Max f p) xs ≡ one_number (chosen greater p (numbers_in f xs)))
        → sent_from fold_node (fold_if_number (Max f o) n) xs ≡ one_number (chosen greater o (cons_option n (numbers_in f xs)))
    by None rest = rest o
    by (Some n) rest = rest (Some (greater o n))

-- the lesser of two numbers is that of std, and the greater too
lesser-int_min : (a n : ℤ) → lesser (Some a) n ≡ int_min a n
lesser-int_min a n = grind (arith, ints)

greater-int_max : (a n : ℤ) → greater (Some a) n ≡ int_max a n
greater-int_max a n = grind (arith, ints)

chosen-lesser : (a : ℤ) (ns : List ℤ) → chosen lesser (Some a) ns ≡ Some (fold int_min a ns)
chosen-lesser a [] = refl
chosen-lesser a (n ∷ ns) = chosen-lesser (lesser (Some a) n) ns ∙ ap (λ (b : ℤ). Some (fold int_min b ns)) (lesser-int_min a n)

chosen-greater : (a : ℤ) (ns : List ℤ) → chosen greater (Some a) ns ≡ Some (fold int_max a ns)
chosen-greater a [] = refl
chosen-greater a (n ∷ ns) = chosen-greater (greater (Some a) n) ns ∙ ap (λ (b : ℤ). Some (fold int_max b ns)) (greater-int_max a n)

-- what was seen first or later is among them all
Contains-reached : (a r : ℤ) (ns : List ℤ) → (r ≡ a) ⊎ Contains ns r → Contains (a ∷ ns) r
Contains-reached a r ns reached =
    ⊎_elim
    (λ is. subst (λ (n : ℤ). Contains (a ∷ ns) n) (sym is) (Contains-first a ns))
    (λ among. Contains-rest a ns r among)
    reached

IsLeast-fold : (a : ℤ) (ns : List ℤ) → IsLeast (a ∷ ns) (fold int_min a ns)
IsLeast-fold a ns =
    let r = fold int_min a ns in
    let b = fold-int_min_bounds a ns r refl in
    record { among = Contains-reached a r ns (fold-int_min_reached a ns r refl); bound = All-cons (λ m. r ≤ℤ m) a ns b.0 b.1 }

IsGreatest-fold : (a : ℤ) (ns : List ℤ) → IsGreatest (a ∷ ns) (fold int_max a ns)
IsGreatest-fold a ns =
    let r = fold int_max a ns in
    let b = fold-int_max_bounds a ns r refl in
    record { among = Contains-reached a r ns (fold-int_max_reached a ns r refl); bound = All-cons (λ m. m ≤ℤ r) a ns b.0 b.1 }

sends_least : (ns : List ℤ) → SendsThat IsLeast ns (one_number (chosen lesser None ns))
sends_least [] = refl
sends_least (n ∷ ns) = (fold int_min n ns, IsLeast-fold n ns, ap one_number (chosen-lesser n ns))

sends_greatest : (ns : List ℤ) → SendsThat IsGreatest ns (one_number (chosen greater None ns))
sends_greatest [] = refl
sends_greatest (n ∷ ns) = (fold int_max n ns, IsGreatest-fold n ns, ap one_number (chosen-greater n ns))

pub min_is_least : MinIsLeast
min_is_least f least xs =
    subst (λ (sends : List Rec). SendsThat IsLeast (numbers_in f xs) sends) (sym (sent_from-min f None xs)) (sends_least (numbers_in f xs))

pub max_is_greatest : MaxIsGreatest
max_is_greatest f most xs =
    subst (λ (sends : List Rec). SendsThat IsGreatest (numbers_in f xs) sends) (sym (sent_from-max f None xs)) (sends_greatest (numbers_in f xs))

-- the records without a number are rejected one by one
rejected_from-numberless : (o : FoldOp) (f : ℕ) (xs : List Rec) → fold_field o ≡ Some f → rejected_from fold_node o xs ≡ numberless f xs
rejected_from-numberless o f [] is = refl
rejected_from-numberless o f (x ∷ xs) is =
    ap (λ (k : Option ℕ). rejects_at k x ++ rejected_from fold_node (fold_next o x) xs) is
    ∙ ap (λ (rest : List Rec). rejects_at (Some f) x ++ rest) (rejected_from-numberless (fold_next o x) f xs (fold_field-next o x ∙ is))
    ∙ by (number_in f x)
  where
    by : (n : Option ℤ) → rejects_without n x ++ numberless f xs ≡ cond (is_none n) (x ∷ numberless f xs) (numberless f xs)
    by None = refl
    by (Some n) = refl

fold_field-opening : (o : FoldOp) → fold_field (fold_opening o) ≡ fold_field o
fold_field-opening (Tally n) = refl
fold_field-opening (Total f plus minus) = refl
fold_field-opening (Min f least) = refl
fold_field-opening (Max f most) = refl

pub rejects_numberless : RejectsNumberless
rejects_numberless o f xs is = rejected_from-numberless (fold_opening o) f xs (fold_field-opening o ∙ is)
