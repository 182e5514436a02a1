-- The laws of entries by key: two changes in either order, and the entries of records key by key.
use Rattle.std.specs.Prelude.{◌≡◌, ℕ, List, [], ◌∷◌, ◌++◌, Option, None, Some, refl}
use Rattle.std.specs.List.{AllByRecursion, flat_map}
use Rattle.std.specs.List.Sorted.{IsStrictlySortedBy}
use Rattle.std.specs.Cmp.Lexicographic.{slice_cmp, nat_list_cmp_total}
use Rattle.std.specs.Ordering.{nat_cmp, ordering_reverse}
use Rattle.std.specs.declared.cmp.Ordering.{Ordering}
use Rattle.std.specs.declared.cmp.Ordering.TheVariants.{Less, Equal, Greater}
use Rattle.std.proofs.Common.{◌∙◌, sym, ap, ap₂, subst}
use Rattle.ff_rec.specs.Contents.{IsRising}
use Rattle.ff_rec.specs.Fields.{put_content, put_by}
use Rattle.ff_rec.proofs.Rising.{Equal-same, All-above}
use Rattle.ff_ops.specs.Entries.{Entry, changed, change_by}

-- how two keys stand, the other way round
reversed : (a b : List ℕ) (o : Ordering) → slice_cmp nat_cmp a b ≡ o → slice_cmp nat_cmp b a ≡ ordering_reverse o
reversed a b o is = nat_list_cmp_total.antisymm b a ∙ ap ordering_reverse is

-- how keys stand that are the same as others
right_same : (a b c : List ℕ) (o : Ordering) → b ≡ c → slice_cmp nat_cmp a b ≡ o → slice_cmp nat_cmp a c ≡ o
right_same a b c o same is = ap (slice_cmp nat_cmp a) (sym same) ∙ is

-- a change by how its key stands to the first
pub changed-less : {V : Type 0} (none : V) (k : List ℕ) (g : V → V) (e : Entry V) (es : List (Entry V)) → slice_cmp nat_cmp k e.0 ≡ Less
    → changed none k g (e ∷ es) ≡ (k, g none) ∷ e ∷ es
changed-less none k g e es is = ap (λ (o : Ordering). change_by o none k g e es (changed none k g es)) is

pub changed-equal : {V : Type 0} (none : V) (k : List ℕ) (g : V → V) (e : Entry V) (es : List (Entry V)) → slice_cmp nat_cmp k e.0 ≡ Equal
    → changed none k g (e ∷ es) ≡ (e.0, g e.1) ∷ es
changed-equal none k g e es is = ap (λ (o : Ordering). change_by o none k g e es (changed none k g es)) is

pub changed-greater : {V : Type 0} (none : V) (k : List ℕ) (g : V → V) (e : Entry V) (es : List (Entry V)) → slice_cmp nat_cmp k e.0 ≡ Greater
    → changed none k g (e ∷ es) ≡ e ∷ changed none k g es
changed-greater none k g e es is = ap (λ (o : Ordering). change_by o none k g e es (changed none k g es)) is

module _ {V : Type 0} (none : V) where
  -- of two keys that both come before all others
  changed-fronts : (k l : List ℕ) (g h : V → V) (es : List (Entry V)) → ((v : V) → g (h v) ≡ h (g v))
      → changed none k g es ≡ (k, g none) ∷ es → changed none l h es ≡ (l, h none) ∷ es
      → changed none k g ((l, h none) ∷ es) ≡ changed none l h ((k, g none) ∷ es)
  changed-fronts k l g h es commute first second = by (slice_cmp nat_cmp k l) refl
    where
      by : (o : Ordering) → slice_cmp nat_cmp k l ≡ o → changed none k g ((l, h none) ∷ es) ≡ changed none l h ((k, g none) ∷ es)
      by Less is =
          changed-less none k g (l, h none) es is
          ∙ ap (λ (rest : List (Entry V)). (k, g none) ∷ rest) (sym second)
          ∙ sym (changed-greater none l h (k, g none) es (reversed k l Less is))
      by Equal is =
          changed-equal none k g (l, h none) es is
          ∙ ap₂ (λ (key : List ℕ) (v : V). (key, v) ∷ es) (sym (Equal-same k l is)) (commute none)
          ∙ sym (changed-equal none l h (k, g none) es (reversed k l Equal is))
      by Greater is =
          changed-greater none k g (l, h none) es is
          ∙ ap (λ (rest : List (Entry V)). (l, h none) ∷ rest) first
          ∙ sym (changed-less none l h (k, g none) es (reversed k l Greater is))

  -- of a key that comes before all others, and one behind it
  changed-ahead : (k l : List ℕ) (g h : V → V) (e e' : Entry V) (es es' : List (Entry V))
      → slice_cmp nat_cmp k e.0 ≡ Less → slice_cmp nat_cmp k e'.0 ≡ Less → slice_cmp nat_cmp k l ≡ Less → changed none l h (e ∷ es) ≡ e' ∷ es'
      → changed none k g (changed none l h (e ∷ es)) ≡ changed none l h (changed none k g (e ∷ es))
  changed-ahead k l g h e e' es es' before before' ahead is =
      ap (changed none k g) is
      ∙ changed-less none k g e' es' before'
      ∙ ap (λ (rest : List (Entry V)). (k, g none) ∷ rest) (sym is)
      ∙ sym (changed-greater none l h (k, g none) (e ∷ es) (reversed k l Less ahead))
      ∙ ap (changed none l h) (sym (changed-less none k g e es before))

  -- two changes whose values allow it, in either order
  pub changed-swap : (k l : List ℕ) (g h : V → V) (es : List (Entry V)) → ((v : V) → g (h v) ≡ h (g v))
      → changed none k g (changed none l h es) ≡ changed none l h (changed none k g es)
  changed-swap k l g h [] commute = changed-fronts k l g h [] commute refl refl
  changed-swap k l g h (e ∷ es) commute = by (slice_cmp nat_cmp k e.0) (slice_cmp nat_cmp l e.0) refl refl (changed-swap k l g h es commute)
    where
      by : (m n : Ordering) → slice_cmp nat_cmp k e.0 ≡ m → slice_cmp nat_cmp l e.0 ≡ n
          → changed none k g (changed none l h es) ≡ changed none l h (changed none k g es)
          → changed none k g (changed none l h (e ∷ es)) ≡ changed none l h (changed none k g (e ∷ es))
      by Less Less p q rest =
          ap (changed none k g) (changed-less none l h e es q)
          ∙ changed-fronts k l g h (e ∷ es) commute (changed-less none k g e es p) (changed-less none l h e es q)
          ∙ ap (changed none l h) (sym (changed-less none k g e es p))
      by Less Equal p q rest =
          changed-ahead k l g h e (e.0, h e.1) es es p p (right_same k e.0 l Less (sym (Equal-same l e.0 q)) p) (changed-equal none l h e es q)
      by Less Greater p q rest =
          changed-ahead k l g h e e es (changed none l h es) p p (nat_list_cmp_total.trans k e.0 l p (reversed l e.0 Greater q)) (changed-greater none l h e es q)
      by Equal Less p q rest =
          sym (changed-ahead l k h g e (e.0, g e.1) es es q q (right_same l e.0 k Less (sym (Equal-same k e.0 p)) q) (changed-equal none k g e es p))
      by Greater Less p q rest =
          sym (changed-ahead l k h g e e es (changed none k g es) q q (nat_list_cmp_total.trans l e.0 k q (reversed k e.0 Greater p)) (changed-greater none k g e es p))
      by Equal Equal p q rest =
          ap (changed none k g) (changed-equal none l h e es q)
          ∙ changed-equal none k g (e.0, h e.1) es p
          ∙ ap (λ (v : V). (e.0, v) ∷ es) (commute e.1)
          ∙ sym (changed-equal none l h (e.0, g e.1) es q)
          ∙ ap (changed none l h) (sym (changed-equal none k g e es p))
      by Equal Greater p q rest =
          ap (changed none k g) (changed-greater none l h e es q)
          ∙ changed-equal none k g e (changed none l h es) p
          ∙ sym (changed-greater none l h (e.0, g e.1) es q)
          ∙ ap (changed none l h) (sym (changed-equal none k g e es p))
      by Greater Equal p q rest =
          ap (changed none k g) (changed-equal none l h e es q)
          ∙ changed-greater none k g (e.0, h e.1) es p
          ∙ sym (changed-equal none l h e (changed none k g es) q)
          ∙ ap (changed none l h) (sym (changed-greater none k g e es p))
      by Greater Greater p q rest =
          ap (changed none k g) (changed-greater none l h e es q)
          ∙ changed-greater none k g e (changed none l h es) p
          ∙ ap (λ (later : List (Entry V)). e ∷ later) rest
          ∙ sym (changed-greater none l h e (changed none k g es) q)
          ∙ ap (changed none l h) (sym (changed-greater none k g e es p))

-- no content of these stands equal to `c`
abbrev pub IsAbsent : List ℕ → List (List ℕ) → Type 0
IsAbsent c cs = AllByRecursion (λ d. slice_cmp nat_cmp c d ≡ Equal → ⊥) cs

-- what comes before all isn't among them
pub IsAbsent-less : (c : List ℕ) (cs : List (List ℕ)) → AllByRecursion (λ d. slice_cmp nat_cmp c d ≡ Less) cs → IsAbsent c cs
IsAbsent-less c [] all = tt
IsAbsent-less c (d ∷ ds) all = ((λ e. let clash = all.0 in cc), IsAbsent-less c ds all.1)

-- what isn't there once a content is put wasn't before, and isn't that content
pub IsAbsent-put : (c d : List ℕ) (cs : List (List ℕ)) → IsAbsent c (put_content d cs) → (slice_cmp nat_cmp c d ≡ Equal → ⊥) × IsAbsent c cs
IsAbsent-put c d [] absent = (absent.0, tt)
IsAbsent-put c d (first ∷ others) absent = by (slice_cmp nat_cmp d first) refl absent (IsAbsent-put c d others)
  where
    by : (o : Ordering) → slice_cmp nat_cmp d first ≡ o → IsAbsent c (put_by o d first others (put_content d others))
        → (IsAbsent c (put_content d others) → (slice_cmp nat_cmp c d ≡ Equal → ⊥) × IsAbsent c others)
        → (slice_cmp nat_cmp c d ≡ Equal → ⊥) × IsAbsent c (first ∷ others)
    by Less is a rest = (a.0, a.1)
    by Equal is a rest = ((λ e. a.0 (right_same c d first Equal (Equal-same d first is) e)), a)
    by Greater is a rest = let r = rest a.1 in (r.0, (a.0, r.1))

-- the entry of a key that has a value
abbrev pub own : {V : Type 0} → List ℕ → Option V → List (Entry V)
own k None = []
own k (Some v) = (k, v) ∷ []

-- the entries of these keys, by their values
abbrev pub table : {V : Type 0} → (List ℕ → Option V) → List (List ℕ) → List (Entry V)
table w cs = flat_map (λ k. own k (w k)) cs

abbrev pub value_or : {V : Type 0} → V → Option V → V
value_or none None = none
value_or none (Some v) = v

module _ {V : Type 0} (none : V) (c : List ℕ) (g : V → V) where
  -- a key that comes before all keys of the table is put in front
  changed-front : (w : List ℕ → Option V) (ds : List (List ℕ)) → AllByRecursion (λ d. slice_cmp nat_cmp c d ≡ Less) ds
      → changed none c g (table w ds) ≡ (c, g none) ∷ table w ds
  changed-front w [] all = refl
  changed-front w (d ∷ ds) all = by (w d) (changed-front w ds all.1)
    where
      by : (v : Option V) → changed none c g (table w ds) ≡ (c, g none) ∷ table w ds
          → changed none c g (own d v ++ table w ds) ≡ (c, g none) ∷ (own d v ++ table w ds)
      by None rest = rest
      by (Some v) rest = changed-less none c g (d, v) (table w ds) all.0

  -- tables of values that agree but at `c`
  table-agree : (w w' : List ℕ → Option V) (ds : List (List ℕ)) → ((k : List ℕ) → (slice_cmp nat_cmp c k ≡ Equal → ⊥) → w' k ≡ w k) → IsAbsent c ds
      → table w' ds ≡ table w ds
  table-agree w w' [] agree absent = refl
  table-agree w w' (d ∷ ds) agree absent =
      ap₂ (λ (v : Option V) (rest : List (Entry V)). own d v ++ rest) (agree d absent.0) (table-agree w w' ds agree absent.1)

  -- a change of `c` in the table
  pub changed-table : (w w' : List ℕ → Option V) (cs : List (List ℕ)) → IsRising cs → (IsAbsent c cs → w c ≡ None)
      → w' c ≡ Some (g (value_or none (w c))) → ((k : List ℕ) → (slice_cmp nat_cmp c k ≡ Equal → ⊥) → w' k ≡ w k)
      → changed none c g (table w cs) ≡ table w' (put_content c cs)
  unfolding IsStrictlySortedBy
  changed-table w w' [] rising absent here agree =
      ap (λ (v : Option V). (c, g (value_or none v)) ∷ []) (sym (absent tt)) ∙ ap (λ (v : Option V). own c v ++ []) (sym here)
  changed-table w w' (d ∷ ds) rising absent here agree = by (slice_cmp nat_cmp c d) refl (changed-table w w' ds rising.1)
    where
      equal : (v : Option V) → slice_cmp nat_cmp c d ≡ Equal → AllByRecursion (λ k. slice_cmp nat_cmp c k ≡ Less) ds
          → changed none c g (own d v ++ table w ds) ≡ (d, g (value_or none v)) ∷ table w ds
      equal None is all = changed-front w ds all ∙ ap (λ (k : List ℕ). (k, g none) ∷ table w ds) (Equal-same c d is)
      equal (Some v) is all = changed-equal none c g (d, v) (table w ds) is

      greater : (v : Option V) → slice_cmp nat_cmp c d ≡ Greater → changed none c g (own d v ++ table w ds) ≡ own d v ++ changed none c g (table w ds)
      greater None is = refl
      greater (Some v) is = changed-greater none c g (d, v) (table w ds) is

      by : (o : Ordering) → slice_cmp nat_cmp c d ≡ o
          → ((IsAbsent c ds → w c ≡ None) → w' c ≡ Some (g (value_or none (w c))) → ((k : List ℕ) → (slice_cmp nat_cmp c k ≡ Equal → ⊥) → w' k ≡ w k)
          → changed none c g (table w ds) ≡ table w' (put_content c ds))
          → changed none c g (table w (d ∷ ds)) ≡ table w' (put_by o c d ds (put_content c ds))
      by Less is rest =
          let all : AllByRecursion (λ k. slice_cmp nat_cmp c k ≡ Less) (d ∷ ds) = (is, All-above c d ds is rising.0) in
          let off : IsAbsent c (d ∷ ds) = IsAbsent-less c (d ∷ ds) all in
          changed-front w (d ∷ ds) all
          ∙ ap (λ (v : Option V). (c, g (value_or none v)) ∷ table w (d ∷ ds)) (sym (absent off))
          ∙ ap₂ (λ (v : Option V) (later : List (Entry V)). own c v ++ later) (sym here) (sym (table-agree w w' (d ∷ ds) agree off))
      by Equal is rest =
          let same : c ≡ d = Equal-same c d is in
          let all : AllByRecursion (λ k. slice_cmp nat_cmp c k ≡ Less) ds = subst (λ (b : List ℕ). AllByRecursion (λ k. slice_cmp nat_cmp b k ≡ Less) ds) (sym same) rising.0 in
          equal (w d) is all
          ∙ ap (λ (v : Option V). own d v ++ table w ds) (sym (subst (λ (k : List ℕ). w' k ≡ Some (g (value_or none (w k)))) same here))
          ∙ ap (λ (later : List (Entry V)). own d (w' d) ++ later) (sym (table-agree w w' ds agree (IsAbsent-less c ds all)))
      by Greater is rest =
          let off : slice_cmp nat_cmp c d ≡ Equal → ⊥ = λ e. cc in
          greater (w d) is
          ∙ ap₂ (λ (v : Option V) (later : List (Entry V)). own d v ++ later) (sym (agree d off)) (rest (λ ds_absent. absent (off, ds_absent)) here agree)

-- a content without a value adds nothing to the table
pub table-put : {V : Type 0} (c : List ℕ) (w : List ℕ → Option V) (cs : List (List ℕ)) → IsRising cs → (IsAbsent c cs → w c ≡ None)
    → table w cs ≡ table w (put_content c cs)
unfolding IsStrictlySortedBy
table-put {V} c w [] rising absent = ap (λ (v : Option V). own c v ++ []) (sym (absent tt))
table-put {V} c w (d ∷ ds) rising absent = by (slice_cmp nat_cmp c d) refl (table-put c w ds rising.1)
  where
    by : (o : Ordering) → slice_cmp nat_cmp c d ≡ o → ((IsAbsent c ds → w c ≡ None) → table w ds ≡ table w (put_content c ds))
        → table w (d ∷ ds) ≡ table w (put_by o c d ds (put_content c ds))
    by Less is rest =
        ap (λ (v : Option V). own c v ++ table w (d ∷ ds)) (sym (absent (IsAbsent-less c (d ∷ ds) (is, All-above c d ds is rising.0))))
    by Equal is rest = refl
    by Greater is rest =
        let off : slice_cmp nat_cmp c d ≡ Equal → ⊥ = λ e. cc in
        ap (λ (later : List (Entry V)). own d (w d) ++ later) (rest (λ ds_absent. absent (off, ds_absent)))
