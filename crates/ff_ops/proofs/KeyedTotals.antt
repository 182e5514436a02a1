-- The counts and the totals of a whole list, content by content.
use Rattle.std.proofs.Common.{◌≡◌, ℕ, ◌+◌, ◌^◌, min, Bool, true, false, cond, is_none, List, [], ◌∷◌, ◌++◌, map, Option, None, Some, ℤ, pos, refl, sym, ap, ap₂, ◌∙◌, zero-add, arith}
use Rattle.std.specs.Prelude.{◌-ℤ◌, ◌||◌}
use Rattle.std.specs.List.{filter, flat_map}
use Rattle.ff_rec.specs.Fields.{field_at, same_bytes, passes, having, contents}
use Rattle.ff_rec.specs.Lines.{Rec}
use Rattle.ff_rec.specs.Number.{printed}
use Rattle.ff_ops.specs.Entries.{Entry}
use Rattle.ff_ops.specs.EntryLaws.{value_or}
use Rattle.ff_ops.specs.FoldOps.{above, below}
use Rattle.ff_ops.specs.FoldSums.{of_number, sum_above, sum_below, count_of}
use Rattle.ff_ops.specs.KeyedFoldLaws.{later, valued}
use Rattle.ff_ops.specs.KeyedOpLaws.{counted, once, summed-swap, node-tally, node-total, rejected_from-keyed}
use Rattle.ff_ops.specs.KeyedOps.{counted_more, summed, tallied, totalled, rejects_where, keyed_rejects}
use Rattle.ff_ops.specs.KeyedSums.{counted_content, totalled_content, numbered, TallybyIsCounts, TallybyRejectsLacking, TotalbyIsTotals, TotalbyRejectsLacking}
use Rattle.ff_ops.specs.KeyedTakes.{tally_record, total_record}
use Rattle.ff_ops.specs.Rows.{number_in}
use Rattle.ff_ops.specs.declared.keyed_op.KeyedOp.TheVariants.{TallyBy, TotalBy}
use Rattle.ff_ops.proofs.KeyedLists.{amounting, steps-contents}

-- a cap on the way and at the end is a cap at the end
min-first : (c n k : ℕ) → min (min n c + k) c ≡ min (k + n) c
min-first c n k = omega arith

-- each record counts, so that all have an amount
amounting-once : (f : ℕ) (xs : List Rec) → amounting 0 counted f once (λ x y v. refl) xs ≡ xs
amounting-once f [] = refl
amounting-once f (x ∷ xs) = ap (λ (ys : List Rec). x ∷ ys) (amounting-once f xs)

-- the count of a content
abbrev tallied_value : ℕ → List ℕ → List Rec → Option ℕ
tallied_value f k xs = valued 0 counted f once (λ x y v. refl) k xs

valued-count : (f : ℕ) (k : List ℕ) (xs : List Rec) → value_or 0 (tallied_value f k xs) ≡ count_of (having f k xs)
valued-count f k [] = refl
valued-count f k (x ∷ xs) = by (passes (same_bytes k) (field_at f x)) (valued-count f k xs)
  where
    by : (e : Bool) → value_or 0 (tallied_value f k xs) ≡ count_of (having f k xs)
        → value_or 0 (later 0 counted e (Some 1) (tallied_value f k xs)) ≡ count_of (cond e (x ∷ having f k xs) (having f k xs))
    by false rest = rest
    by true rest = ap counted_more rest ∙ omega arith

counted_contents : (f : ℕ) (xs : List Rec) (cs : List (List ℕ))
    → map tally_record (map (λ k. (k, value_or 0 (tallied_value f k xs))) cs) ≡ map (counted_content f xs) cs
counted_contents f xs [] = refl
counted_contents f xs (k ∷ cs) =
    ap₂ (λ (n : ℕ) (rest : List Rec). (k ∷ printed (pos n) ∷ []) ∷ rest) (valued-count f k xs) (counted_contents f xs cs)

pub tallyby_is_counts : TallybyIsCounts
tallyby_is_counts f es xs =
    node-tally f es xs
    ∙ ap (map tally_record) (steps-contents 0 counted f once (λ x y v. refl) xs)
    ∙ ap (λ (ys : List Rec). map tally_record (map (λ k. (k, value_or 0 (tallied_value f k ys))) (contents f ys))) (amounting-once f xs)
    ∙ counted_contents f xs (contents f xs)

-- the sums of a content
abbrev totalled_value : ℕ → ℕ → List ℕ → List Rec → Option (ℕ × ℕ)
totalled_value f g k xs = valued (0, 0) summed f (number_in g) summed-swap k xs

abbrev capped_sums : ℕ → List Rec → ℕ × ℕ
capped_sums g xs = (min (sum_above g xs) (2 ^ 126), min (sum_below g xs) (2 ^ 126))

valued-sums : (f g : ℕ) (k : List ℕ) (xs : List Rec) → value_or (0, 0) (totalled_value f g k xs) ≡ capped_sums g (having f k xs)
valued-sums f g k [] = refl
valued-sums f g k (x ∷ xs) = by (passes (same_bytes k) (field_at f x)) (number_in g x) refl (valued-sums f g k xs)
  where
    one : (a : Option ℤ) → value_or (0, 0) (totalled_value f g k xs) ≡ capped_sums g (having f k xs)
        → value_or (0, 0) (later (0, 0) summed true a (totalled_value f g k xs))
        ≡ (min (of_number above a + sum_above g (having f k xs)) (2 ^ 126), min (of_number below a + sum_below g (having f k xs)) (2 ^ 126))
    one None rest =
        rest ∙ ap₂ (λ (p m : ℕ). (min p (2 ^ 126), min m (2 ^ 126))) (sym (zero-add (sum_above g (having f k xs)))) (sym (zero-add (sum_below g (having f k xs))))
    one (Some y) rest =
        ap (summed y) rest
        ∙ ap₂ (λ (p m : ℕ). (p, m)) (min-first (2 ^ 126) (sum_above g (having f k xs)) (above y)) (min-first (2 ^ 126) (sum_below g (having f k xs)) (below y))

    by : (e : Bool) (a : Option ℤ) → number_in g x ≡ a → value_or (0, 0) (totalled_value f g k xs) ≡ capped_sums g (having f k xs)
        → value_or (0, 0) (later (0, 0) summed e (number_in g x) (totalled_value f g k xs)) ≡ capped_sums g (cond e (x ∷ having f k xs) (having f k xs))
    by false a is rest = rest
    by true a is rest = one (number_in g x) rest

-- the total of two sums that are capped
total-capped : (p m : ℕ) → pos (min (min p (2 ^ 126)) (2 ^ 126)) -ℤ pos (min (min m (2 ^ 126)) (2 ^ 126)) ≡ pos (min p (2 ^ 126)) -ℤ pos (min m (2 ^ 126))
total-capped p m = ap₂ (λ (a b : ℕ). pos a -ℤ pos b) (min-twice (2 ^ 126) p) (min-twice (2 ^ 126) m)
  where
    min-twice : (c n : ℕ) → min (min n c) c ≡ min n c
    min-twice c n = omega arith

totalled_contents : (f g : ℕ) (xs : List Rec) (cs : List (List ℕ))
    → map total_record (map (λ k. (k, value_or (0, 0) (totalled_value f g k xs))) cs) ≡ map (totalled_content f g xs) cs
totalled_contents f g xs [] = refl
totalled_contents f g xs (k ∷ cs) =
    ap₂ (λ (n : ℤ) (rest : List Rec). (k ∷ printed n ∷ []) ∷ rest)
    (ap (λ (s : ℕ × ℕ). pos (min s.0 (2 ^ 126)) -ℤ pos (min s.1 (2 ^ 126))) (valued-sums f g k xs)
    ∙ total-capped (sum_above g (having f k xs)) (sum_below g (having f k xs)))
    (totalled_contents f g xs cs)

pub totalby_is_totals : TotalbyIsTotals
totalby_is_totals f g es xs =
    node-total f g es xs
    ∙ ap (map total_record) (steps-contents (0, 0) summed f (number_in g) summed-swap xs)
    ∙ totalled_contents f g (numbered g xs) (contents f (numbered g xs))

-- what is rejected one by one
flat_map-filter : (h : Rec → List Rec) (test : Rec → Bool) (xs : List Rec) → ((x : Rec) → h x ≡ cond (test x) (x ∷ []) []) → flat_map h xs ≡ filter test xs
flat_map-filter h test [] each = refl
flat_map-filter h test (x ∷ xs) each = ap₂ (λ (front back : List Rec). front ++ back) (each x) (flat_map-filter h test xs each) ∙ by (test x)
  where
    by : (b : Bool) → cond b (x ∷ []) [] ++ filter test xs ≡ cond b (x ∷ filter test xs) (filter test xs)
    by true = refl
    by false = refl

tally_rejects : (o : Option (List ℕ)) (es : List (Entry ℕ)) (x : Rec) → rejects_where (tallied o es) x ≡ cond (is_none o) (x ∷ []) []
tally_rejects None es x = refl
tally_rejects (Some key) es x = refl

total_rejects : (o : Option (List ℕ)) (n : Option ℤ) (es : List (Entry (ℕ × ℕ))) (x : Rec) → rejects_where (totalled o n es) x ≡ cond (is_none o || is_none n) (x ∷ []) []
total_rejects None n es x = refl
total_rejects (Some key) None es x = refl
total_rejects (Some key) (Some n) es x = refl

pub tallyby_rejects_lacking : TallybyRejectsLacking
tallyby_rejects_lacking f es xs =
    rejected_from-keyed (TallyBy f []) xs
    ∙ flat_map-filter (keyed_rejects (TallyBy f [])) (λ x. is_none (field_at f x)) xs (λ x. tally_rejects (field_at f x) [] x)

pub totalby_rejects_lacking : TotalbyRejectsLacking
totalby_rejects_lacking f g es xs =
    rejected_from-keyed (TotalBy f g []) xs
    ∙ flat_map-filter (keyed_rejects (TotalBy f g [])) (λ x. is_none (field_at f x) || is_none (number_in g x)) xs (λ x. total_rejects (field_at f x) (number_in g x) [] x)
