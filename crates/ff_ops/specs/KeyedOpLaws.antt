-- The folds by key are fixed when they are made, and keep the law of their class.
use Rattle.std.specs.Prelude.{◌≡◌, ℕ, ◌+◌, ◌^◌, min, List, [], ◌∷◌, ◌++◌, map, Option, None, Some, ℤ, refl}
use Rattle.std.specs.List.{flat_map}
use Rattle.std.proofs.Common.{◌∙◌, sym, ap, ap₂, arith}
use Rattle.ff_rec.specs.Lines.{Rec}
use Rattle.ff_rec.specs.Fields.{field_at, having, lacking, contents}
use Rattle.ff_rec.specs.Weights.{weigh, Same}
use Rattle.ff_node.specs.Behaviour.{KeepsKind, sent_from, rejected_from, state_from, node, node_rejected}
use Rattle.ff_node.specs.Classes.{ClassLaw, IsKeyedNode, reached}
use Rattle.ff_ops.specs.Entries.{Entry}
use Rattle.ff_ops.specs.FoldOps.{above, below}
use Rattle.ff_ops.specs.FoldLaws.{IsFoldNode-steps}
use Rattle.ff_ops.specs.KeyedTakes.{tally_record, total_record}
use Rattle.ff_ops.specs.KeyedFoldLaws.{stepped, step, steps, step-swap, steps-parts, Same-parts}
use Rattle.ff_ops.specs.KeyedOps.{counted_more, summed, tallied, totalled, entries_or, rejects_where, keyed_next, keyed_rejects, keyed_last, keyed_opening, keyed_class, keyed_node}
use Rattle.ff_ops.specs.Rows.{number_in}
use Rattle.ff_ops.specs.declared.keyed_op.KeyedOp.{KeyedOp}
use Rattle.ff_ops.specs.declared.keyed_op.KeyedOp.TheVariants.{TallyBy, TotalBy}

-- what a fold by key does is fixed when it is made
keyed_opening-opening : (o : KeyedOp) → keyed_opening (keyed_opening o) ≡ keyed_opening o
keyed_opening-opening (TallyBy f es) = refl
keyed_opening-opening (TotalBy f g es) = refl

keyed_opening-next : (o : KeyedOp) (r : Rec) → keyed_opening (keyed_next o r) ≡ keyed_opening o
keyed_opening-next (TallyBy f es) r = refl
keyed_opening-next (TotalBy f g es) r = refl

keyed_class-opening : (o : KeyedOp) → keyed_class (keyed_opening o) ≡ keyed_class o
keyed_class-opening (TallyBy f es) = refl
keyed_class-opening (TotalBy f g es) = refl

pub keyed_keeps_kind : KeepsKind keyed_node
keyed_keeps_kind = record { opening_of_opening = keyed_opening-opening; opening_of_next = keyed_opening-next; class_of_opening = keyed_class-opening }

-- all that is sent comes at the end
sent_from-keyed : (o : KeyedOp) (xs : List Rec) → sent_from keyed_node o xs ≡ keyed_last (state_from keyed_node o xs)
sent_from-keyed o [] = refl
sent_from-keyed o (x ∷ xs) = sent_from-keyed (keyed_next o x) xs

-- two capped sums take two numbers in either order
capped-swap : (c n a b : ℕ) → min (min (n + a) c + b) c ≡ min (min (n + b) c + a) c
capped-swap c n a b = omega arith

pub summed-swap : (x y : ℤ) (sums : ℕ × ℕ) → summed x (summed y sums) ≡ summed y (summed x sums)
summed-swap x y sums =
    ap₂ (λ (m n : ℕ). (m, n)) (capped-swap (2 ^ 126) sums.0 (above y) (above x)) (capped-swap (2 ^ 126) sums.1 (below y) (below x))

-- each record counts once
abbrev pub counted : ℕ → ℕ → ℕ
counted one n = counted_more n

abbrev pub once : Rec → Option ℕ
once r = Some 1

-- `tallyby` goes step by step
tallied-stepped : (o : Option (List ℕ)) (es : List (Entry ℕ)) → entries_or es (tallied o es) ≡ stepped 0 counted o (Some 1) es
tallied-stepped None es = refl
tallied-stepped (Some key) es = refl

state_from-tally : (f : ℕ) (es : List (Entry ℕ)) (xs : List Rec)
    → state_from keyed_node (TallyBy f es) xs ≡ TallyBy f (steps 0 counted f once (λ x y v. refl) es xs)
state_from-tally f es [] = refl
state_from-tally f es (x ∷ xs) =
    ap (λ (s : List (Entry ℕ)). state_from keyed_node (TallyBy f s) xs) (tallied-stepped (field_at f x) es)
    ∙ state_from-tally f (step 0 counted f once (λ x y v. refl) es x) xs

-- `totalby` goes step by step
totalled-stepped : (o : Option (List ℕ)) (x : Option ℤ) (es : List (Entry (ℕ × ℕ))) → entries_or es (totalled o x es) ≡ stepped (0, 0) summed o x es
totalled-stepped None x es = refl
totalled-stepped (Some key) None es = refl
totalled-stepped (Some key) (Some x) es = refl

state_from-total : (f g : ℕ) (es : List (Entry (ℕ × ℕ))) (xs : List Rec)
    → state_from keyed_node (TotalBy f g es) xs ≡ TotalBy f g (steps (0, 0) summed f (number_in g) summed-swap es xs)
state_from-total f g es [] = refl
state_from-total f g es (x ∷ xs) =
    ap (λ (s : List (Entry (ℕ × ℕ))). state_from keyed_node (TotalBy f g s) xs) (totalled-stepped (field_at f x) (number_in g x) es)
    ∙ state_from-total f g (step (0, 0) summed f (number_in g) summed-swap es x) xs

-- two records lead to one state in either order
tally-swap : (f : ℕ) (es : List (Entry ℕ)) (x y : Rec) → keyed_next (keyed_next (TallyBy f es) x) y ≡ keyed_next (keyed_next (TallyBy f es) y) x
tally-swap f es x y =
    state_from-tally f es (x ∷ y ∷ [])
    ∙ ap (TallyBy f) (step-swap 0 counted f once (λ x y v. refl) es x y)
    ∙ sym (state_from-tally f es (y ∷ x ∷ []))

total-swap : (f g : ℕ) (es : List (Entry (ℕ × ℕ))) (x y : Rec) → keyed_next (keyed_next (TotalBy f g es) x) y ≡ keyed_next (keyed_next (TotalBy f g es) y) x
total-swap f g es x y =
    state_from-total f g es (x ∷ y ∷ [])
    ∙ ap (TotalBy f g) (step-swap (0, 0) summed f (number_in g) summed-swap es x y)
    ∙ sym (state_from-total f g es (y ∷ x ∷ []))

keyed-swap : (o : KeyedOp) (x y : Rec) → keyed_next (keyed_next o x) y ≡ keyed_next (keyed_next o y) x
keyed-swap (TallyBy f es) x y = tally-swap f es x y
keyed-swap (TotalBy f g es) x y = total-swap f g es x y

-- what is rejected doesn't hang on the entries
tallied-rejects : (o : Option (List ℕ)) (es : List (Entry ℕ)) (r : Rec) → rejects_where (tallied o es) r ≡ rejects_where (tallied o []) r
tallied-rejects None es r = refl
tallied-rejects (Some key) es r = refl

totalled-rejects : (o : Option (List ℕ)) (x : Option ℤ) (es : List (Entry (ℕ × ℕ))) (r : Rec) → rejects_where (totalled o x es) r ≡ rejects_where (totalled o x []) r
totalled-rejects None x es r = refl
totalled-rejects (Some key) None es r = refl
totalled-rejects (Some key) (Some x) es r = refl

keyed_rejects-opening : (o : KeyedOp) (r : Rec) → keyed_rejects o r ≡ keyed_rejects (keyed_opening o) r
keyed_rejects-opening (TallyBy f es) r = tallied-rejects (field_at f r) es r
keyed_rejects-opening (TotalBy f g es) r = totalled-rejects (field_at f r) (number_in g r) es r

keyed_opening-state_from : (o : KeyedOp) (xs : List Rec) → keyed_opening (state_from keyed_node o xs) ≡ keyed_opening o
keyed_opening-state_from o [] = refl
keyed_opening-state_from o (x ∷ xs) = keyed_opening-state_from (keyed_next o x) xs ∙ keyed_opening-next o x

keyed_rejects-reached : (o : KeyedOp) (ys : List Rec) (r : Rec) → keyed_rejects (state_from keyed_node o ys) r ≡ keyed_rejects o r
keyed_rejects-reached o ys r =
    keyed_rejects-opening (state_from keyed_node o ys) r
    ∙ ap (λ (p : KeyedOp). keyed_rejects p r) (keyed_opening-state_from o ys)
    ∙ sym (keyed_rejects-opening o r)

-- each record is rejected or not by itself
flat_map-rejects : (o p : KeyedOp) (xs : List Rec) → keyed_opening p ≡ keyed_opening o → flat_map (keyed_rejects p) xs ≡ flat_map (keyed_rejects o) xs
flat_map-rejects o p [] same = refl
flat_map-rejects o p (x ∷ xs) same =
    ap₂ (λ (front back : List Rec). front ++ back)
    (keyed_rejects-opening p x ∙ ap (λ (q : KeyedOp). keyed_rejects q x) same ∙ sym (keyed_rejects-opening o x))
    (flat_map-rejects o p xs same)

pub rejected_from-keyed : (o : KeyedOp) (xs : List Rec) → rejected_from keyed_node o xs ≡ flat_map (keyed_rejects o) xs
rejected_from-keyed o [] = refl
rejected_from-keyed o (x ∷ xs) =
    ap (λ (rest : List Rec). keyed_rejects o x ++ rest)
    (rejected_from-keyed (keyed_next o x) xs ∙ flat_map-rejects o (keyed_next o x) xs (keyed_opening-next o x))

-- the records of entries, part by part
map-parts : {A B K : Type 0} (h : A → B) (g : K → List A) (ks : List K) → map h (flat_map g ks) ≡ flat_map (λ k. map h (g k)) ks
map-parts h g [] = refl
map-parts {A} {B} {K} h g (k ∷ ks) = map-row (g k) ∙ ap (λ (rest : List B). map h (g k) ++ rest) (map-parts h g ks)
  where
    map-row : (front : List A) → map h (front ++ flat_map g ks) ≡ map h front ++ map h (flat_map g ks)
    map-row [] = refl
    map-row (a ∷ front) = ap (λ (rest : List B). h a ∷ rest) (map-row front)

flat_map-same : {A K : Type 0} (g h : K → List A) (ks : List K) → ((k : K) → g k ≡ h k) → flat_map g ks ≡ flat_map h ks
flat_map-same g h [] same = refl
flat_map-same {A} g h (k ∷ ks) same = ap₂ (λ (front back : List A). front ++ back) (same k) (flat_map-same g h ks same)

-- what is sent in all
pub node-tally : (f : ℕ) (es : List (Entry ℕ)) (xs : List Rec) → node keyed_node (TallyBy f es) xs ≡ map tally_record (steps 0 counted f once (λ x y v. refl) [] xs)
node-tally f es xs = sent_from-keyed (TallyBy f []) xs ∙ ap keyed_last (state_from-tally f [] xs)

pub node-total : (f g : ℕ) (es : List (Entry (ℕ × ℕ))) (xs : List Rec)
    → node keyed_node (TotalBy f g es) xs ≡ map total_record (steps (0, 0) summed f (number_in g) summed-swap [] xs)
node-total f g es xs = sent_from-keyed (TotalBy f g []) xs ∙ ap keyed_last (state_from-total f g [] xs)

tally-parts : (f : ℕ) (es : List (Entry ℕ)) (xs : List Rec)
    → node keyed_node (TallyBy f es) xs ≡ flat_map (λ k. node keyed_node (TallyBy f es) (having f k xs)) (contents f xs)
tally-parts f es xs =
    node-tally f es xs
    ∙ ap (map tally_record) (steps-parts 0 counted f once (λ x y v. refl) xs)
    ∙ map-parts tally_record (λ k. steps 0 counted f once (λ x y v. refl) [] (having f k xs)) (contents f xs)
    ∙ flat_map-same (λ k. map tally_record (steps 0 counted f once (λ x y v. refl) [] (having f k xs))) (λ k. node keyed_node (TallyBy f es) (having f k xs)) (contents f xs) (λ k. sym (node-tally f es (having f k xs)))

total-parts : (f g : ℕ) (es : List (Entry (ℕ × ℕ))) (xs : List Rec)
    → node keyed_node (TotalBy f g es) xs ≡ flat_map (λ k. node keyed_node (TotalBy f g es) (having f k xs)) (contents f xs)
total-parts f g es xs =
    node-total f g es xs
    ∙ ap (map total_record) (steps-parts (0, 0) summed f (number_in g) summed-swap xs)
    ∙ map-parts total_record (λ k. steps (0, 0) summed f (number_in g) summed-swap [] (having f k xs)) (contents f xs)
    ∙ flat_map-same (λ k. map total_record (steps (0, 0) summed f (number_in g) summed-swap [] (having f k xs))) (λ k. node keyed_node (TotalBy f g es) (having f k xs)) (contents f xs) (λ k. sym (node-total f g es (having f k xs)))

-- the rejects of all are those of the records of each content, and of those without one
keyed-node_rejected : (o : KeyedOp) (f : ℕ) (xs : List Rec)
    → Same (node_rejected keyed_node o xs) (flat_map (λ k. node_rejected keyed_node o (having f k xs)) (contents f xs) ++ node_rejected keyed_node o (lacking f xs))
keyed-node_rejected o f xs = record {
  by = λ w.
      ap (weigh w) (rejected_from-keyed (keyed_opening o) xs)
      ∙ (Same-parts (keyed_rejects (keyed_opening o)) f xs).by w
      ∙ ap₂ (λ (front back : List Rec). weigh w (front ++ back))
      (flat_map-same (λ k. flat_map (keyed_rejects (keyed_opening o)) (having f k xs)) (λ k. node_rejected keyed_node o (having f k xs)) (contents f xs) (λ k. sym (rejected_from-keyed (keyed_opening o) (having f k xs))))
      (sym (rejected_from-keyed (keyed_opening o) (lacking f xs)));
}

-- a fold by key from what it sends and rejects
IsKeyedNode-parts : (o : KeyedOp) (f : ℕ) → ((xs : List Rec) → node keyed_node o xs ≡ flat_map (λ k. node keyed_node o (having f k xs)) (contents f xs)) → IsKeyedNode keyed_node f o
IsKeyedNode-parts o f parts = record {
  fold = IsFoldNode-steps keyed_node o (record {
    sends = λ ys x. refl;
    ends = λ ys x. refl;
    rejects = keyed_rejects-reached (keyed_opening o);
    last_rejects = λ ys. refl;
    swaps = λ ys. keyed-swap (reached keyed_node o ys);
  });
  parts = parts;
  rejected_parts = keyed-node_rejected o f;
  rejected_nothing = refl;
}

-- the law of the class
pub keyed_class_law : (o : KeyedOp) → ClassLaw keyed_node o (keyed_node.class o)
keyed_class_law (TallyBy f es) = IsKeyedNode-parts (TallyBy f es) f (tally-parts f es)
keyed_class_law (TotalBy f g es) = IsKeyedNode-parts (TotalBy f g es) f (total-parts f g es)
