-- Records of a key and a value: what goes in is such, what the network sends is such, and such records can be written.
use Rattle.std.proofs.Common.{◌≡◌, ℕ, zero, suc, ◌*◌, ◌%◌, List, [], ◌∷◌, ◌++◌, length, map, Option, None, Some, ℤ, pos, refl, sym, ap, subst, arith}
use Rattle.std.specs.Prelude.{option_and_then, ◌*ℤ◌}
use Rattle.std.specs.Cmp.Lexicographic.{slice_cmp}
use Rattle.std.specs.List.{AllByRecursion}
use Rattle.std.specs.Ordering.{nat_cmp}
use Rattle.std.specs.declared.cmp.Ordering.{Ordering}
use Rattle.std.specs.declared.cmp.Ordering.TheVariants.{Less, Equal, Greater}
use Rattle.ff_rec.specs.Fields.{field_at, number_in}
use Rattle.ff_rec.specs.Lines.{Rec, IsRec, IsPlain}
use Rattle.ff_rec.specs.Number.{number, printed}
use Rattle.ff_rec.specs.Weights.{Same}
use Rattle.ff_rec.proofs.Counts.{Same-pick_record}
use Rattle.ff_rec.proofs.Digits.{IsPlain-printed}
use Rattle.ff_node.specs.Behaviour.{sent_from}
use Rattle.ff_ops.specs.Entries.{Entry, change_by, changed}
use Rattle.ff_ops.specs.KeyedOps.{summed, totalled, entries_or, total_of}
use Rattle.ff_ops.specs.NumberOps.{answer_for, becomes, sent_for}
use Rattle.ff_ops.specs.Operation.{OpState, op_node}
use Rattle.ff_ops.specs.Rows.{in_range, sends_of}
use Rattle.ff_ops.specs.declared.family.Family.TheVariants.{Keyed}
use Rattle.ff_ops.specs.declared.keyed_op.KeyedOp.TheVariants.{TotalBy}
use Rattle.ff_ops.specs.declared.number_op.NumberRule.TheVariants.{Mul}
use Rattle.ff_soak.specs.Records.{soak_record, records_behind, soak_records}
use Rattle.ff_soak.proofs.Plain.{IsPlain-soak_record}
use Rattle.ff_soak.specs.Networks.{times_three, same_again, totals, soak_answer}

-- a key and a value, both plain
pub record IsPair (r : Rec) : Type 0 where
  pub key : List ℕ
  pub value : List ℕ
  pub is : r ≡ key ∷ value ∷ []
  pub plain_key : IsPlain key
  pub plain_value : IsPlain value

pair : (key value : List ℕ) → IsPlain key → IsPlain value → IsPair (key ∷ value ∷ [])
pair key value k v = record { key = key; value = value; is = refl; plain_key = k; plain_value = v }

pub IsRec-pair : (r : Rec) → IsPair r → IsRec r
IsRec-pair r h = record {
  some = let e : length r ≡ 2 = ap length h.is in omega arith;
  few = let e : length r ≡ 2 = ap length h.is in omega arith;
  plain = subst (AllByRecursion IsPlain) (sym h.is) (h.plain_key, (h.plain_value, tt));
}

-- what holds of the elements of two lists
All-append : {A : Type 0} (P : A → Type 0) (xs ys : List A) → AllByRecursion P xs → AllByRecursion P ys → AllByRecursion P (xs ++ ys)
All-append P [] ys h g = g
All-append P (x ∷ xs) ys h g = (h.0, All-append P xs ys h.1 g)

All-uncons : {A : Type 0} (P : A → Type 0) (front : List A) (x : A) (back : List A)
    → AllByRecursion P (front ++ x ∷ back) → P x × AllByRecursion P (front ++ back)
All-uncons P [] x back h = h
All-uncons P (y ∷ front) x back h = let g = All-uncons P front x back h.1 in (g.0, (h.0, g.1))

-- what holds of the records of one list holds of those of another that is the same
pub All-Same : (P : Rec → Type 0) (xs ys : List Rec) → Same xs ys → AllByRecursion P ys → AllByRecursion P xs
All-Same P [] ys same h = tt
All-Same P (x ∷ xs) ys same h =
    let picked = Same-pick_record x xs ys same in
    let parts = All-uncons P picked.front x picked.back (subst (AllByRecursion P) picked.is h) in
    (parts.0, All-Same P xs (picked.front ++ picked.back) picked.rest parts.1)

-- what goes in
IsPair-soak_record : (i : ℕ) → IsPair (soak_record i)
IsPair-soak_record i = let h = IsPlain-soak_record i in pair (119 ∷ printed (pos (i * i % 11))) (printed (pos (617 * i % 1000))) h.0 h.1.0

pub All-records_behind : (i k : ℕ) → AllByRecursion IsPair (records_behind i k)
All-records_behind i zero = tt
All-records_behind i (suc k) = (IsPair-soak_record (suc i), All-records_behind (suc i) k)

-- a record of a key and a value, times three where the value is a number
module _ (key value : List ℕ) (k : IsPlain key) (v : IsPlain value) where
  All-becomes : (n : Option ℤ) → AllByRecursion IsPair (sends_of (sent_for 2 (key ∷ value ∷ []) (becomes n)))
  All-becomes None = tt
  All-becomes (Some n) = (pair key (printed n) k (IsPlain-printed n), tt)

  All-times : (x : Option ℤ) → AllByRecursion IsPair (sends_of (sent_for 2 (key ∷ value ∷ []) (option_and_then (answer_for (Mul (pos 3)) (key ∷ value ∷ [])) x)))
  All-times None = tt
  All-times (Some x) = All-becomes (in_range (x *ℤ pos 3))

All-tripled : (xs : List Rec) → AllByRecursion IsPair xs → AllByRecursion IsPair (sent_from op_node times_three xs)
All-tripled [] h = tt
All-tripled (x ∷ xs) h =
    All-append IsPair (op_node.sends times_three x) (sent_from op_node times_three xs)
    (subst (λ (r : Rec). AllByRecursion IsPair (op_node.sends times_three r)) (sym h.0.is) (All-times h.0.key h.0.value h.0.plain_key h.0.plain_value (number h.0.value)))
    (All-tripled xs h.1)

-- each record as it is
sent_from-same_again : (xs : List Rec) → sent_from op_node same_again xs ≡ xs
sent_from-same_again [] = refl
sent_from-same_again (x ∷ xs) = ap (λ (ys : List Rec). x ∷ ys) (sent_from-same_again xs)

-- an entry whose key is plain
abbrev IsPlainEntry : Entry (ℕ × ℕ) → Type 0
IsPlainEntry e = IsPlain e.0

All-change_by : (order : Ordering) (key : List ℕ) (change : ℕ × ℕ → ℕ × ℕ) (first : Entry (ℕ × ℕ)) (others placed : List (Entry (ℕ × ℕ)))
    → IsPlain key → AllByRecursion IsPlainEntry (first ∷ others) → AllByRecursion IsPlainEntry placed
    → AllByRecursion IsPlainEntry (change_by order (0, 0) key change first others placed)
All-change_by Less key change first others placed k h g = (k, h)
All-change_by Equal key change first others placed k h g = h
All-change_by Greater key change first others placed k h g = (h.0, g)

All-changed : (key : List ℕ) (change : ℕ × ℕ → ℕ × ℕ) (entries : List (Entry (ℕ × ℕ))) → IsPlain key
    → AllByRecursion IsPlainEntry entries → AllByRecursion IsPlainEntry (changed (0, 0) key change entries)
All-changed key change [] k h = (k, tt)
All-changed key change (first ∷ others) k h =
    All-change_by (slice_cmp nat_cmp key first.0) key change first others (changed (0, 0) key change others) k h (All-changed key change others k h.1)

-- the entries after a record of a plain key
All-totalled : (key : List ℕ) (n : Option ℤ) (entries : List (Entry (ℕ × ℕ))) → IsPlain key
    → AllByRecursion IsPlainEntry entries → AllByRecursion IsPlainEntry (entries_or entries (totalled (Some key) n entries))
All-totalled key None entries k h = h
All-totalled key (Some x) entries k h = All-changed key (summed x) entries k h

All-entries : (x : Rec) (entries : List (Entry (ℕ × ℕ))) → IsPair x → AllByRecursion IsPlainEntry entries
    → AllByRecursion IsPlainEntry (entries_or entries (totalled (field_at 1 x) (number_in 2 x) entries))
All-entries x entries p h =
    subst (λ (r : Rec). AllByRecursion IsPlainEntry (entries_or entries (totalled (field_at 1 r) (number_in 2 r) entries))) (sym p.is)
    (All-totalled p.key (number p.value) entries p.plain_key h)

All-last : (entries : List (Entry (ℕ × ℕ))) → AllByRecursion IsPlainEntry entries
    → AllByRecursion IsPair (map (λ (e : Entry (ℕ × ℕ)). e.0 ∷ printed (total_of e.1) ∷ []) entries)
All-last [] h = tt
All-last (e ∷ entries) h = (pair e.0 (printed (total_of e.1)) h.0 (IsPlain-printed (total_of e.1)), All-last entries h.1)

-- the totals so far
abbrev totals_at : List (Entry (ℕ × ℕ)) → OpState
totals_at entries = record totals { family = Keyed (TotalBy 1 2 entries) }

All-totals : (xs : List Rec) (entries : List (Entry (ℕ × ℕ))) → AllByRecursion IsPair xs → AllByRecursion IsPlainEntry entries
    → AllByRecursion IsPair (sent_from op_node (totals_at entries) xs)
All-totals [] entries h g = All-last entries g
All-totals (x ∷ xs) entries h g =
    All-totals xs (entries_or entries (totalled (field_at 1 x) (number_in 2 x) entries)) h.1 (All-entries x entries h.0 g)

-- what the network sends
pub All-soak_answer : (m w n : ℕ) → AllByRecursion IsPair (soak_answer m w n)
All-soak_answer m w n =
    let tripled = sent_from op_node times_three (soak_records n) in
    subst (λ (ys : List Rec). AllByRecursion IsPair (sent_from op_node (totals_at []) ys)) (sym (sent_from-same_again tripled))
    (All-totals tripled [] (All-tripled (soak_records n) (All-records_behind 0 n)) tt)
