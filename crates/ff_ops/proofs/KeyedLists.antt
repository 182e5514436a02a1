-- The entries of a whole list: a value for each content of the records with an amount.
use Rattle.std.proofs.Common.{◌≡◌, ℕ, Bool, true, false, cond, is_some, List, [], ◌∷◌, ◌++◌, map, Option, None, Some, refl, sym, ap, ◌∙◌, Ordering, Less, Equal, Greater, nat_cmp}
use Rattle.std.specs.List.{AllByRecursion, filter}
use Rattle.std.specs.Cmp.Lexicographic.{slice_cmp}
use Rattle.ff_rec.specs.Fields.{field_at, same_bytes, passes, contents, put_content, put_by, put_if_there}
use Rattle.ff_rec.specs.Lines.{Rec}
use Rattle.ff_ops.specs.Entries.{Entry}
use Rattle.ff_ops.specs.EntryLaws.{own, table, value_or}
use Rattle.ff_ops.specs.KeyedFoldLaws.{stepped, later, steps, valued, steps-table, same_bytes-refl}

-- what holds of a content and of all others holds of all once it is put
All-put_content : (P : List ℕ → Type 0) (c : List ℕ) (cs : List (List ℕ)) → P c → AllByRecursion P cs → AllByRecursion P (put_content c cs)
All-put_content P c [] here all = (here, tt)
All-put_content P c (d ∷ ds) here all = by (slice_cmp nat_cmp c d) (All-put_content P c ds here all.1)
  where
    by : (o : Ordering) → AllByRecursion P (put_content c ds) → AllByRecursion P (put_by o c d ds (put_content c ds))
    by Less rest = (here, all)
    by Equal rest = all
    by Greater rest = (all.0, rest)

All-each : (P Q : List ℕ → Type 0) (cs : List (List ℕ)) → ((k : List ℕ) → P k → Q k) → AllByRecursion P cs → AllByRecursion Q cs
All-each P Q [] each all = tt
All-each P Q (k ∷ cs) each all = (each k all.0, All-each P Q cs each all.1)

-- what is filtered passes
All-filter : (test : Rec → Bool) (xs : List Rec) → AllByRecursion (λ x. test x ≡ true) (filter test xs)
All-filter test [] = tt
All-filter test (x ∷ xs) = by (test x) refl (All-filter test xs)
  where
    by : (b : Bool) → test x ≡ b → AllByRecursion (λ x. test x ≡ true) (filter test xs)
        → AllByRecursion (λ x. test x ≡ true) (cond b (x ∷ filter test xs) (filter test xs))
    by true is rest = (is, rest)
    by false is rest = rest

module _ {V X : Type 0} (none : V) (act : X → V → V) (f : ℕ) (amount : Rec → Option X) (commute : (x y : X) (v : V) → act x (act y v) ≡ act y (act x v)) where
  -- the records with an amount
  abbrev pub amounting : List Rec → List Rec
  amounting xs = filter (λ x. is_some (amount x)) xs

  -- one without an amount leaves the entries
  stepped-none : (k : Option (List ℕ)) (es : List (Entry V)) → stepped none act k None es ≡ es
  stepped-none None es = refl
  stepped-none (Some key) es = refl

  steps-amounting : (es : List (Entry V)) (xs : List Rec) → steps none act f amount commute es xs ≡ steps none act f amount commute es (amounting xs)
  steps-amounting es [] = refl
  steps-amounting es (x ∷ xs) = by (amount x) refl (λ s. steps-amounting s xs)
    where
      by : (a : Option X) → amount x ≡ a
          → ((s : List (Entry V)) → steps none act f amount commute s xs ≡ steps none act f amount commute s (amounting xs))
          → steps none act f amount commute (stepped none act (field_at f x) (amount x) es) xs
          ≡ steps none act f amount commute es (cond (is_some (amount x)) (x ∷ amounting xs) (amounting xs))
      by None is rest =
          ap (λ (a : Option X). steps none act f amount commute (stepped none act (field_at f x) a es) xs) is
          ∙ ap (λ (s : List (Entry V)). steps none act f amount commute s xs) (stepped-none (field_at f x) es)
          ∙ rest es
          ∙ ap (λ (a : Option X). steps none act f amount commute es (cond (is_some a) (x ∷ amounting xs) (amounting xs))) (sym is)
      by (Some a) is rest =
          rest (stepped none act (field_at f x) (amount x) es)
          ∙ ap (λ (b : Option X). steps none act f amount commute es (cond (is_some b) (x ∷ amounting xs) (amounting xs))) (sym is)

  -- the keys of records with amounts have values
  some-later : (e : Bool) (a : Option X) (v : Option V) → is_some v ≡ true → is_some (later none act e a v) ≡ true
  some-later false a v is = is
  some-later true None v is = is
  some-later true (Some x) v is = refl

  some-first : (e : Bool) (a : Option X) (v : Option V) → e ≡ true → is_some a ≡ true → is_some (later none act e a v) ≡ true
  some-first true (Some x) v same is = refl
  some-first true None v same is = absurd (cc)
  some-first false a v same is = absurd (cc)

  valued-some : (xs : List Rec) → AllByRecursion (λ x. is_some (amount x) ≡ true) xs
      → AllByRecursion (λ k. is_some (valued none act f amount commute k xs) ≡ true) (contents f xs)
  valued-some [] all = tt
  valued-some (x ∷ xs) all = by (field_at f x) refl
      (All-each (λ k. is_some (valued none act f amount commute k xs) ≡ true) (λ k. is_some (valued none act f amount commute k (x ∷ xs)) ≡ true) (contents f xs)
      (λ k is. some-later (passes (same_bytes k) (field_at f x)) (amount x) (valued none act f amount commute k xs) is)
      (valued-some xs all.1))
    where
      by : (o : Option (List ℕ)) → field_at f x ≡ o → AllByRecursion (λ k. is_some (valued none act f amount commute k (x ∷ xs)) ≡ true) (contents f xs)
          → AllByRecursion (λ k. is_some (valued none act f amount commute k (x ∷ xs)) ≡ true) (put_if_there o (contents f xs))
      by None is rest = rest
      by (Some c) is rest =
          All-put_content (λ k. is_some (valued none act f amount commute k (x ∷ xs)) ≡ true) c (contents f xs)
          (some-first (passes (same_bytes c) (field_at f x)) (amount x) (valued none act f amount commute c xs) (ap (passes (same_bytes c)) is ∙ same_bytes-refl c) all.0)
          rest

  -- a table of keys that all have values
  table-some : (w : List ℕ → Option V) (cs : List (List ℕ)) → AllByRecursion (λ k. is_some (w k) ≡ true) cs
      → table w cs ≡ map (λ k. (k, value_or none (w k))) cs
  table-some w [] all = refl
  table-some w (k ∷ cs) all = by (w k) all.0 (table-some w cs all.1)
    where
      by : (v : Option V) → is_some v ≡ true → table w cs ≡ map (λ k. (k, value_or none (w k))) cs
          → own k v ++ table w cs ≡ (k, value_or none v) ∷ map (λ k. (k, value_or none (w k))) cs
      by None is rest = absurd (cc)
      by (Some v) is rest = ap (λ (es : List (Entry V)). (k, v) ∷ es) rest

  -- the entries are the contents of the records with an amount, each with its value
  pub steps-contents : (xs : List Rec)
      → steps none act f amount commute [] xs ≡ map (λ k. (k, value_or none (valued none act f amount commute k (amounting xs)))) (contents f (amounting xs))
  steps-contents xs =
      steps-amounting [] xs
      ∙ steps-table none act f amount commute (amounting xs)
      ∙ table-some (λ k. valued none act f amount commute k (amounting xs)) (contents f (amounting xs))
      (valued-some (amounting xs) (All-filter (λ x. is_some (amount x)) xs))
