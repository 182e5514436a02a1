-- The rows of a hash map as entries in byte order of their keys.
use Rattle.std.proofs.Common.{◌≡◌, ℕ, false, cond, List, [], ◌∷◌, Option, None, Some, refl, sym, ap, ◌∙◌, Ordering, Less, Equal, Greater, nat_cmp}
use Rattle.std.specs.List.{AllByRecursion, IsDistinct, fold}
use Rattle.std.specs.Map.{lookup, keys_of, KeepsOthers}
use Rattle.std.specs.HashMap.{HashMap, PutsEntry}
use Rattle.std.specs.declared.alloc.Global.{Global}
use Rattle.std.specs.declared.vec.Vec.{Vec}
use Rattle.std.specs.Ordering.{match_ordering}
use Rattle.std.specs.Cmp.Lexicographic.{slice_cmp, bytes_decides, nat_list_eq_equiv}
use Rattle.std.specs.BTreeMap.{insert_entry}
use Rattle.std.proofs.lemmas.Map.Views.{All-map-IsPermutation}
use Rattle.std.proofs.lemmas.List.Elements.{All-cons, All-head, All-tail}
use Rattle.ff_rec.specs.Lines.{IsPlain}
use Rattle.ff_ops.specs.Entries.{Entry, changed, change_by}
use Rattle.ff_ops.specs.EntryLaws.{value_or}
use Rattle.ff_ops.specs.Tables.{Row, at_key, put, read_by, by_key, AreApart, ArePlain, IsNewAt}
use Rattle.ff_ops.proofs.KeyFinds.{same, found, None-Some, All-keys-fold, in_order-changed}

-- a row put into a map in order is its entry put
read_by-insert_entry : {K V : Type 0} (bytes : K → List ℕ) (rows : List (K × V)) (k : K) (v : V)
    → read_by bytes (insert_entry (λ x y. slice_cmp nat_cmp (bytes x) (bytes y)) rows k v) ≡ put (read_by bytes rows) (bytes k, v)
read_by-insert_entry bytes [] k v = refl
read_by-insert_entry {K} {V} bytes (r ∷ rs) k v = by (slice_cmp nat_cmp (bytes k) (bytes r.0)) (read_by-insert_entry bytes rs k v)
  where
    later : List (K × V)
    later = insert_entry (λ x y. slice_cmp nat_cmp (bytes x) (bytes y)) rs k v

    by : (o : Ordering) → read_by bytes later ≡ put (read_by bytes rs) (bytes k, v)
        → read_by bytes (match_ordering o ((k, v) ∷ r ∷ rs) ((r.0, v) ∷ rs) (r ∷ later))
        ≡ change_by o v (bytes k) (λ u. v) (bytes r.0, r.1) (read_by bytes rs) (put (read_by bytes rs) (bytes k, v))
    by Less rest = refl
    by Equal rest = refl
    by Greater rest = ap (λ (es : List (Entry V)). (bytes r.0, r.1) ∷ es) rest

-- and what is left to be put comes to the same
pub fold-inserted : {K V : Type 0} (bytes : K → List ℕ) (rows after : List (K × V)) (k : K) (v : V) (rest : List (Entry V))
    → after ≡ insert_entry (λ x y. slice_cmp nat_cmp (bytes x) (bytes y)) rows k v
    → fold put (read_by bytes after) rest ≡ fold put (put (read_by bytes rows) (bytes k, v)) rest
fold-inserted {K} {V} bytes rows after k v rest is =
    ap (λ (es : List (K × V)). fold put (read_by bytes es) rest) is
    ∙ ap (λ (es : List (Entry V)). fold put es rest) (read_by-insert_entry bytes rows k v)

-- what a map's rows have at some bytes
pub found-read_by : {K V : Type 0} (bytes : K → List ℕ) (rows : List (K × V)) (q : List ℕ) → lookup (λ k. same q (bytes k)) rows ≡ found (read_by bytes rows) q
found-read_by bytes [] q = refl
found-read_by {K} {V} bytes (r ∷ rs) q = ap (λ (o : Option V). cond (same q (bytes r.0)) (Some r.1) o) (found-read_by bytes rs q)

-- keys that differ differ as bytes
apart-read_by : {K V : Type 0} (bytes : K → List ℕ) (k : K) (rows : List (K × V)) → AllByRecursion (λ d. same (bytes k) (bytes d) ≡ false) (keys_of rows)
    → AllByRecursion (λ d. same (bytes k) d ≡ false) (keys_of (read_by bytes rows))
apart-read_by bytes k [] all = tt
apart-read_by bytes k (r ∷ rs) all = (all.0, apart-read_by bytes k rs all.1)

pub IsDistinct-read_by : {K V : Type 0} (bytes : K → List ℕ) (rows : List (K × V)) → IsDistinct (λ x y. same (bytes x) (bytes y)) (keys_of rows)
    → IsDistinct same (keys_of (read_by bytes rows))
unfolding IsDistinct
IsDistinct-read_by bytes [] apart = tt
IsDistinct-read_by bytes (r ∷ rs) apart = (apart-read_by bytes r.0 rs apart.0, IsDistinct-read_by bytes rs apart.1)

module _ {V : Type 0} where
  -- what stands at other bytes than the key's stays
  others-stay : (key q : List ℕ) (rows after : List (Row V)) → KeepsOthers (λ a b. same a.items b.items) (λ k. same key k.items) rows after → same key q ≡ false → at_key after q ≡ at_key rows q
  unfolding KeepsOthers
  others-stay key q rows after keeps other =
      keeps (λ k. same q k.items)
      (λ x y is. ap (λ b. same b y.items) ((bytes_decides q x.items).0 is))
      (λ k is. ap (same q) (sym ((bytes_decides key k.items).0 is)) ∙ nat_list_eq_equiv.symm q key ∙ other)

  -- a hash map whose value at a key is changed
  pub by_key-changed : (none : V) (key : List ℕ) (g : V → V) (rows after : List (Row V)) → AreApart rows → AreApart after
      → at_key after key ≡ Some (g (value_or none (at_key rows key))) → KeepsOthers (λ a b. same a.items b.items) (λ k. same key k.items) rows after
      → by_key after ≡ changed none key g (by_key rows)
  by_key-changed none key g rows after apart_before apart_after here keeps =
      in_order-changed none key g (read_by (λ k. k.items) rows) (read_by (λ k. k.items) after)
      (IsDistinct-read_by (λ k. k.items) rows apart_before)
      (IsDistinct-read_by (λ k. k.items) after apart_after)
      (sym (found-read_by (λ k. k.items) after key) ∙ here ∙ ap (λ (o : Option V). Some (g (value_or none o))) (found-read_by (λ k. k.items) rows key))
      (λ q other. sym (found-read_by (λ k. k.items) after q) ∙ others-stay key q rows after keeps other ∙ found-read_by (λ k. k.items) rows q)

  -- a hash map with a new key
  pub IsNewAt-put : (key : List ℕ) (value : V) (rows after : List (Row V)) → AreApart rows → AreApart after → at_key rows key ≡ None
      → at_key after key ≡ Some value → KeepsOthers (λ a b. same a.items b.items) (λ k. same key k.items) rows after
      → IsNewAt (by_key rows) key value (by_key after)
  IsNewAt-put key value rows after apart_before apart_after new here keeps none change is =
      by_key-changed none key change rows after apart_before apart_after
      (here ∙ ap (λ (v : V). Some v) (sym is) ∙ ap (λ (o : Option V). Some (change (value_or none o))) (sym new))
      keeps

  -- keys stay plain where a plain one comes in
  pub ArePlain-put : {S : Type 0} (k : Vec ℕ Global) (value : V) (m n : HashMap (Vec ℕ Global) V S) (old : Option V) → old ≡ None → PutsEntry (λ a b. same a.items b.items) m n k value old
      → IsPlain k.items → ArePlain m.entries → ArePlain n.entries
  ArePlain-put k value m n (Some v) new puts plain all = None-Some v (sym new)
  ArePlain-put k value m n None new puts plain all =
      All-map-IsPermutation (λ e. e.0) (λ k. IsPlain k.items) ((k, value) ∷ m.entries) n.entries puts (All-cons (λ k. IsPlain k.items) k (keys_of m.entries) plain all)

  -- the keys of the entries in order are plain
  All-by_recursion : (rows : List (Row V)) → ArePlain rows → AllByRecursion IsPlain (keys_of (read_by (λ k. k.items) rows))
  All-by_recursion [] all = tt
  All-by_recursion (r ∷ rs) all =
      (All-head (λ k. IsPlain k.items) r.0 (keys_of rs) all, All-by_recursion rs (All-tail (λ k. IsPlain k.items) r.0 (keys_of rs) all))

  pub by_key-plain : (rows : List (Row V)) → ArePlain rows → AllByRecursion IsPlain (keys_of (by_key rows))
  by_key-plain rows all = All-keys-fold IsPlain (read_by (λ k. k.items) rows) [] (All-by_recursion rows all) tt
