-- Folds whose state is entries by the contents of a field: the records in either order, and those of each content alone.
use Rattle.std.specs.Prelude.{◌≡◌, ℕ, ◌+◌, Bool, true, false, is_none, List, [], ◌∷◌, ◌++◌, Option, None, Some, refl}
use Rattle.std.specs.List.{flat_map}
use Rattle.std.specs.Cmp.Lexicographic.{slice_cmp, bytes_decides, texts_ties}
use Rattle.std.specs.List.Sorted.{IsStrictlySortedBy}
use Rattle.std.specs.Ordering.{nat_cmp, is_eq}
use Rattle.std.specs.declared.cmp.Ordering.{Ordering}
use Rattle.std.specs.declared.cmp.Ordering.TheVariants.{Less, Equal, Greater}
use Rattle.std.proofs.Common.{◌∙◌, sym, ap, ap₂, subst, arith, cond}
use Rattle.ff_rec.specs.Contents.{IsRising}
use Rattle.ff_rec.specs.Fields.{field_at, same_bytes, passes, having, lacking, contents, put_content, put_by, put_if_there}
use Rattle.ff_rec.specs.Lines.{Rec}
use Rattle.ff_rec.specs.Weights.{weigh, Same}
use Rattle.ff_rec.proofs.Rising.{Equal-same, All-above, contents-rising}
use Rattle.ff_rec.proofs.WeightLaws.{weigh-append, weigh-flat_map}
use Rattle.ff_ops.specs.Entries.{Entry, changed}
use Rattle.ff_ops.specs.EntryLaws.{changed-equal, changed-swap, IsAbsent, IsAbsent-less, IsAbsent-put, own, table, value_or, changed-table, table-put}

-- a key stands equal to itself
pub Equal-refl : (k : List ℕ) → slice_cmp nat_cmp k k ≡ Equal
Equal-refl k = by (slice_cmp nat_cmp k k) (sym (texts_ties k k) ∙ (bytes_decides k k).1 refl)
  where
    by : (o : Ordering) → is_eq o ≡ true → o ≡ Equal
    by Less e = cc
    by Equal e = refl
    by Greater e = cc

-- a content that isn't equal to `k` isn't its bytes
same_bytes-other : (k c : List ℕ) → (slice_cmp nat_cmp c k ≡ Equal → ⊥) → same_bytes k c ≡ false
same_bytes-other k c other = by (same_bytes k c) refl
  where
    by : (e : Bool) → same_bytes k c ≡ e → e ≡ false
    by true is = absurd (other (ap (λ (b : List ℕ). slice_cmp nat_cmp b k) (sym ((bytes_decides k c).0 is)) ∙ Equal-refl k))
    by false is = refl

pub same_bytes-refl : (k : List ℕ) → same_bytes k k ≡ true
same_bytes-refl k = (bytes_decides k k).1 refl

-- the records of a content that isn't there
having-absent : (f : ℕ) (c : List ℕ) (xs : List Rec) → IsAbsent c (contents f xs) → having f c xs ≡ []
having-absent f c [] absent = refl
having-absent f c (x ∷ xs) absent = by (field_at f x) refl absent (having-absent f c xs)
  where
    by : (o : Option (List ℕ)) → field_at f x ≡ o → IsAbsent c (put_if_there o (contents f xs)) → (IsAbsent c (contents f xs) → having f c xs ≡ []) → having f c (x ∷ xs) ≡ []
    by None is a rest =
        ap (λ (p : Option (List ℕ)). cond (passes (same_bytes c) p) (x ∷ having f c xs) (having f c xs)) is ∙ rest a
    by (Some d) is a rest =
        let off = IsAbsent-put c d (contents f xs) a in
        ap (λ (p : Option (List ℕ)). cond (passes (same_bytes c) p) (x ∷ having f c xs) (having f c xs)) is
        ∙ ap (λ (e : Bool). cond e (x ∷ having f c xs) (having f c xs)) (same_bytes-other c d (λ e. off.0 (ap (slice_cmp nat_cmp c) (Equal-same d c e) ∙ Equal-refl c)))
        ∙ rest off.1

-- weights of contents that agree but at `c`
weigh-agree : (c : List ℕ) (w w' : List ℕ → ℕ) (ds : List (List ℕ)) → ((k : List ℕ) → (slice_cmp nat_cmp c k ≡ Equal → ⊥) → w' k ≡ w k) → IsAbsent c ds
    → weigh w' ds ≡ weigh w ds
weigh-agree c w w' [] agree absent = refl
weigh-agree c w w' (d ∷ ds) agree absent = ap₂ (λ (m n : ℕ). m + n) (agree d absent.0) (weigh-agree c w w' ds agree absent.1)

-- the weight once `c` is put and weighs more
weigh-put : (c : List ℕ) (n : ℕ) (w w' : List ℕ → ℕ) (cs : List (List ℕ)) → IsRising cs → (IsAbsent c cs → w c ≡ 0) → w' c ≡ n + w c
    → ((k : List ℕ) → (slice_cmp nat_cmp c k ≡ Equal → ⊥) → w' k ≡ w k) → weigh w' (put_content c cs) ≡ n + weigh w cs
unfolding IsStrictlySortedBy
weigh-put c n w w' [] rising absent here agree = omega (arith, here, absent tt)
weigh-put c n w w' (d ∷ ds) rising absent here agree = by (slice_cmp nat_cmp c d) refl (weigh-put c n w w' ds rising.1)
  where
    by : (o : Ordering) → slice_cmp nat_cmp c d ≡ o
        → ((IsAbsent c ds → w c ≡ 0) → w' c ≡ n + w c → ((k : List ℕ) → (slice_cmp nat_cmp c k ≡ Equal → ⊥) → w' k ≡ w k) → weigh w' (put_content c ds) ≡ n + weigh w ds)
        → weigh w' (put_by o c d ds (put_content c ds)) ≡ n + weigh w (d ∷ ds)
    by Less is rest =
        let off : IsAbsent c (d ∷ ds) = IsAbsent-less c (d ∷ ds) (is, All-above c d ds is rising.0) in
        let same : weigh w' (d ∷ ds) ≡ weigh w (d ∷ ds) = weigh-agree c w w' (d ∷ ds) agree off in
        let nothing : w c ≡ 0 = absent off in
        omega arith
    by Equal is rest =
        let eq : c ≡ d = Equal-same c d is in
        let off : IsAbsent c ds = subst (λ (b : List ℕ). IsAbsent b ds) (sym eq) (IsAbsent-less d ds rising.0) in
        let same : weigh w' ds ≡ weigh w ds = weigh-agree c w w' ds agree off in
        let at : w' d ≡ n + w d = subst (λ (b : List ℕ). w' b ≡ n + w b) eq here in
        omega arith
    by Greater is rest =
        let off : slice_cmp nat_cmp c d ≡ Equal → ⊥ = λ e. cc in
        let at : w' d ≡ w d = agree d off in
        let later : weigh w' (put_content c ds) ≡ n + weigh w ds = rest (λ ds_absent. absent (off, ds_absent)) here agree in
        omega arith

-- the weight of the records of each content, and of those without
weigh-parts : (h : Rec → ℕ) (f : ℕ) (xs : List Rec) → weigh h xs ≡ weigh (λ k. weigh h (having f k xs)) (contents f xs) + weigh h (lacking f xs)
weigh-parts h f [] = refl
weigh-parts h f (x ∷ xs) = by (field_at f x) refl (weigh-parts h f xs)
  where
    with_x : Bool → List Rec → List Rec
    with_x e ys = cond e (x ∷ ys) ys

    none : (cs : List (List ℕ)) → field_at f x ≡ None → weigh (λ k. weigh h (having f k (x ∷ xs))) cs ≡ weigh (λ k. weigh h (having f k xs)) cs
    none [] is = refl
    none (k ∷ cs) is = ap₂ (λ (m n : ℕ). m + n) (ap (λ (o : Option (List ℕ)). weigh h (cond (passes (same_bytes k) o) (x ∷ having f k xs) (having f k xs))) is) (none cs is)

    by : (o : Option (List ℕ)) → field_at f x ≡ o → weigh h xs ≡ weigh (λ k. weigh h (having f k xs)) (contents f xs) + weigh h (lacking f xs)
        → h x + weigh h xs ≡ weigh (λ k. weigh h (having f k (x ∷ xs))) (put_if_there o (contents f xs)) + weigh h (lacking f (x ∷ xs))
    by None is rest =
        let lacks : weigh h (lacking f (x ∷ xs)) ≡ h x + weigh h (lacking f xs) =
        ap (λ (o : Option (List ℕ)). weigh h (cond (is_none o) (x ∷ lacking f xs) (lacking f xs))) is in
        let same : weigh (λ k. weigh h (having f k (x ∷ xs))) (contents f xs) ≡ weigh (λ k. weigh h (having f k xs)) (contents f xs) = none (contents f xs) is in
        omega arith
    by (Some c) is rest =
        let lacks : weigh h (lacking f (x ∷ xs)) ≡ weigh h (lacking f xs) =
        ap (λ (o : Option (List ℕ)). weigh h (cond (is_none o) (x ∷ lacking f xs) (lacking f xs))) is in
        let put : weigh (λ k. weigh h (having f k (x ∷ xs))) (put_content c (contents f xs)) ≡ h x + weigh (λ k. weigh h (having f k xs)) (contents f xs) =
        weigh-put c (h x) (λ k. weigh h (having f k xs)) (λ k. weigh h (having f k (x ∷ xs))) (contents f xs) (contents-rising f xs)
        (λ absent. ap (weigh h) (having-absent f c xs absent))
        (ap (λ (o : Option (List ℕ)). weigh h (cond (passes (same_bytes c) o) (x ∷ having f c xs) (having f c xs))) is
        ∙ ap (λ (e : Bool). weigh h (cond e (x ∷ having f c xs) (having f c xs))) (same_bytes-refl c))
        (λ k other.
        ap (λ (o : Option (List ℕ)). weigh h (cond (passes (same_bytes k) o) (x ∷ having f k xs) (having f k xs))) is
        ∙ ap (λ (e : Bool). weigh h (cond e (x ∷ having f k xs) (having f k xs))) (same_bytes-other k c other)) in
        omega arith

-- what is made of each record alone is made of those of each content, and of those without
pub Same-parts : (g : Rec → List Rec) (f : ℕ) (xs : List Rec)
    → Same (flat_map g xs) (flat_map (λ k. flat_map g (having f k xs)) (contents f xs) ++ flat_map g (lacking f xs))
Same-parts g f xs = record {
  by = λ h.
      weigh-flat_map h g xs
      ∙ weigh-parts (λ x. weigh h (g x)) f xs
      ∙ ap₂ (λ (m n : ℕ). m + n) (each h (contents f xs)) (sym (weigh-flat_map h g (lacking f xs)))
      ∙ sym (weigh-append h (flat_map (λ k. flat_map g (having f k xs)) (contents f xs)) (flat_map g (lacking f xs)));
}
  where
    each : (h : Rec → ℕ) (cs : List (List ℕ)) → weigh (λ k. weigh (λ x. weigh h (g x)) (having f k xs)) cs ≡ weigh h (flat_map (λ k. flat_map g (having f k xs)) cs)
    each h [] = refl
    each h (k ∷ cs) =
        ap₂ (λ (m n : ℕ). m + n) (sym (weigh-flat_map h g (having f k xs))) (each h cs)
        ∙ sym (weigh-append h (flat_map g (having f k xs)) (flat_map (λ k. flat_map g (having f k xs)) cs))

-- the entries after a record with this content and this amount; where one is missing they stay
abbrev pub stepped : {V X : Type 0} → V → (X → V → V) → Option (List ℕ) → Option X → List (Entry V) → List (Entry V)
stepped none act None x es = es
stepped none act (Some key) None es = es
stepped none act (Some key) (Some x) es = changed none key (act x) es

-- the value of a key after one more record
abbrev pub later : {V X : Type 0} → V → (X → V → V) → Bool → Option X → Option V → Option V
later none act false x v = v
later none act true None v = v
later none act true (Some x) v = Some (act x (value_or none v))

module _ {V X : Type 0} (none : V) (act : X → V → V) (f : ℕ) (amount : Rec → Option X) (commute : (x y : X) (v : V) → act x (act y v) ≡ act y (act x v)) where
  abbrev pub step : List (Entry V) → Rec → List (Entry V)
  step es r = stepped none act (field_at f r) (amount r) es

  -- the entries after these records
  abbrev pub steps : List (Entry V) → List Rec → List (Entry V)
  steps es [] = es
  steps es (x ∷ xs) = steps (step es x) xs

  stepped-swap : (k l : Option (List ℕ)) (x y : Option X) (es : List (Entry V)) → stepped none act l y (stepped none act k x es) ≡ stepped none act k x (stepped none act l y es)
  stepped-swap None l x y es = refl
  stepped-swap (Some k) None x y es = refl
  stepped-swap (Some k) (Some l) None y es = refl
  stepped-swap (Some k) (Some l) (Some x) None es = refl
  stepped-swap (Some k) (Some l) (Some x) (Some y) es = changed-swap none l k (act y) (act x) es (commute y x)

  -- two records in either order
  pub step-swap : (es : List (Entry V)) (x y : Rec) → step (step es x) y ≡ step (step es y) x
  step-swap es x y = stepped-swap (field_at f x) (field_at f y) (amount x) (amount y) es

  -- the first record may come last
  steps-first : (es : List (Entry V)) (x : Rec) (xs : List Rec) → steps (step es x) xs ≡ step (steps es xs) x
  steps-first es x [] = refl
  steps-first es x (y ∷ ys) = ap (λ (s : List (Entry V)). steps s ys) (step-swap es x y) ∙ steps-first (step es y) x ys

  -- the value that these records give a key
  abbrev pub valued : List ℕ → List Rec → Option V
  valued k [] = None
  valued k (x ∷ xs) = later none act (passes (same_bytes k) (field_at f x)) (amount x) (valued k xs)

  -- one more record of a key that has a value, or none
  stepped-own : (k : List ℕ) (x : Option X) (v : Option V) → stepped none act (Some k) x (own k v) ≡ own k (later none act true x v)
  stepped-own k None v = refl
  stepped-own k (Some x) None = refl
  stepped-own k (Some x) (Some v) = changed-equal none k (act x) (k, v) [] (Equal-refl k)

  -- the records of a key alone give it its entry
  steps-having : (k : List ℕ) (xs : List Rec) → steps [] (having f k xs) ≡ own k (valued k xs)
  steps-having k [] = refl
  steps-having k (x ∷ xs) = by (field_at f x) refl (steps-having k xs)
    where
      named : (c : List ℕ) (e : Bool) → field_at f x ≡ Some c → same_bytes k c ≡ e → steps [] (having f k xs) ≡ own k (valued k xs)
          → steps [] (cond e (x ∷ having f k xs) (having f k xs)) ≡ own k (later none act e (amount x) (valued k xs))
      named c false is other rest = rest
      named c true is same rest =
          steps-first [] x (having f k xs)
          ∙ ap (λ (s : List (Entry V)). step s x) rest
          ∙ ap (λ (o : Option (List ℕ)). stepped none act o (amount x) (own k (valued k xs))) (is ∙ ap Some (sym ((bytes_decides k c).0 same)))
          ∙ stepped-own k (amount x) (valued k xs)

      by : (o : Option (List ℕ)) → field_at f x ≡ o → steps [] (having f k xs) ≡ own k (valued k xs) → steps [] (having f k (x ∷ xs)) ≡ own k (valued k (x ∷ xs))
      by None is rest =
          ap (λ (o : Option (List ℕ)). steps [] (cond (passes (same_bytes k) o) (x ∷ having f k xs) (having f k xs))) is
          ∙ rest
          ∙ ap (λ (o : Option (List ℕ)). own k (later none act (passes (same_bytes k) o) (amount x) (valued k xs))) (sym is)
      by (Some c) is rest =
          ap (λ (o : Option (List ℕ)). steps [] (cond (passes (same_bytes k) o) (x ∷ having f k xs) (having f k xs))) is
          ∙ named c (same_bytes k c) is refl rest
          ∙ ap (λ (o : Option (List ℕ)). own k (later none act (passes (same_bytes k) o) (amount x) (valued k xs))) (sym is)

  -- a key that isn't there has no value
  valued-absent : (c : List ℕ) (xs : List Rec) → IsAbsent c (contents f xs) → valued c xs ≡ None
  valued-absent c xs absent = by (valued c xs) (sym (steps-having c xs) ∙ ap (steps []) (having-absent f c xs absent))
    where
      by : (v : Option V) → own c v ≡ [] → v ≡ None
      by None e = refl
      by (Some v) e = cc

  -- tables of the same values
  table-same : (w w' : List ℕ → Option V) (cs : List (List ℕ)) → ((k : List ℕ) → w' k ≡ w k) → table w cs ≡ table w' cs
  table-same w w' [] same = refl
  table-same w w' (k ∷ cs) same = ap₂ (λ (v : Option V) (rest : List (Entry V)). own k v ++ rest) (sym (same k)) (table-same w w' cs same)

  -- the entries of records are the table of their contents
  pub steps-table : (xs : List Rec) → steps [] xs ≡ table (λ k. valued k xs) (contents f xs)
  steps-table [] = refl
  steps-table (x ∷ xs) = steps-first [] x xs ∙ ap (λ (s : List (Entry V)). step s x) (steps-table xs) ∙ by (field_at f x) (amount x) refl refl
    where
      unnamed : (k : List ℕ) (o : Option (List ℕ)) (a : Option X) → field_at f x ≡ o → amount x ≡ a → valued k (x ∷ xs) ≡ later none act (passes (same_bytes k) o) a (valued k xs)
      unnamed k o a is has = ap₂ (λ (p : Option (List ℕ)) (b : Option X). later none act (passes (same_bytes k) p) b (valued k xs)) is has

      unchanged : (e : Bool) (v : Option V) → later none act e None v ≡ v
      unchanged false v = refl
      unchanged true v = refl

      by : (o : Option (List ℕ)) (a : Option X) → field_at f x ≡ o → amount x ≡ a
          → stepped none act (field_at f x) (amount x) (table (λ k. valued k xs) (contents f xs)) ≡ table (λ k. valued k (x ∷ xs)) (put_if_there (field_at f x) (contents f xs))
      by None a is has =
          ap (λ (o : Option (List ℕ)). stepped none act o (amount x) (table (λ k. valued k xs) (contents f xs))) is
          ∙ table-same (λ k. valued k xs) (λ k. valued k (x ∷ xs)) (contents f xs) (λ k. unnamed k None a is has)
          ∙ ap (λ (o : Option (List ℕ)). table (λ k. valued k (x ∷ xs)) (put_if_there o (contents f xs))) (sym is)
      by (Some c) None is has =
          ap₂ (λ (o : Option (List ℕ)) (a : Option X). stepped none act o a (table (λ k. valued k xs) (contents f xs))) is has
          ∙ table-put c (λ k. valued k xs) (contents f xs) (contents-rising f xs) (valued-absent c xs)
          ∙ table-same (λ k. valued k xs) (λ k. valued k (x ∷ xs)) (put_content c (contents f xs)) (λ k. unnamed k (Some c) None is has ∙ unchanged (same_bytes k c) (valued k xs))
          ∙ ap (λ (o : Option (List ℕ)). table (λ k. valued k (x ∷ xs)) (put_if_there o (contents f xs))) (sym is)
      by (Some c) (Some a) is has =
          ap₂ (λ (o : Option (List ℕ)) (b : Option X). stepped none act o b (table (λ k. valued k xs) (contents f xs))) is has
          ∙ changed-table none c (act a) (λ k. valued k xs) (λ k. valued k (x ∷ xs)) (contents f xs) (contents-rising f xs) (valued-absent c xs)
          (unnamed c (Some c) (Some a) is has ∙ ap (λ (e : Bool). later none act e (Some a) (valued c xs)) (same_bytes-refl c))
          (λ k other. unnamed k (Some c) (Some a) is has ∙ ap (λ (e : Bool). later none act e (Some a) (valued k xs)) (same_bytes-other k c other))
          ∙ ap (λ (o : Option (List ℕ)). table (λ k. valued k (x ∷ xs)) (put_if_there o (contents f xs))) (sym is)

  -- the entries of records are those of each content's records alone, in byte order
  pub steps-parts : (xs : List Rec) → steps [] xs ≡ flat_map (λ k. steps [] (having f k xs)) (contents f xs)
  steps-parts xs = steps-table xs ∙ each (contents f xs)
    where
      each : (cs : List (List ℕ)) → table (λ k. valued k xs) cs ≡ flat_map (λ k. steps [] (having f k xs)) cs
      each [] = refl
      each (k ∷ cs) = ap₂ (λ (own_k rest : List (Entry V)). own_k ++ rest) (sym (steps-having k xs)) (each cs)
