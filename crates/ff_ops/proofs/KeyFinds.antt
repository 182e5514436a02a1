-- What is found at each key of entries, which are in order by what is found.
use Rattle.std.proofs.Common.{◌≡◌, ℕ, Bool, true, false, nat_eq, cond, List, [], ◌∷◌, Option, None, Some, is_eq, is_some, unwrap_or, refl, sym, ap, ap₂, subst, ◌∙◌, Ordering, Less, Equal, Greater, nat_cmp}
use Rattle.std.specs.List.{AllByRecursion, IsDistinct, fold}
use Rattle.std.specs.List.Sorted.{IsStrictlySortedBy}
use Rattle.std.specs.Map.{lookup, keys_of, update_all}
use Rattle.std.specs.Ordering.{ordering_reverse}
use Rattle.std.specs.Cmp.Lexicographic.{slice_cmp, pointwise, bytes_decides, texts_ties, nat_list_cmp_total, nat_list_eq_equiv}
use Rattle.std.proofs.lemmas.Map.Made.{update_all_none}
use Rattle.ff_rec.specs.Contents.{IsRising}
use Rattle.ff_rec.proofs.Rising.{Equal-same, All-above}
use Rattle.ff_ops.specs.Entries.{Entry, changed, change_by}
use Rattle.ff_ops.specs.EntryLaws.{changed-less, changed-equal, changed-greater, value_or}
use Rattle.ff_ops.specs.Tables.{put}

-- whether bytes are those of a key
abbrev pub same : List ℕ → List ℕ → Bool
same a b = pointwise nat_eq a b

-- the value at a key
abbrev pub found : {V : Type 0} → List (Entry V) → List ℕ → Option V
found es k = lookup (same k) es

-- what an order says of equality
same-refl : (k : List ℕ) → same k k ≡ true
same-refl k = (bytes_decides k k).1 refl

same-less : (a b : List ℕ) → slice_cmp nat_cmp a b ≡ Less → same a b ≡ false
same-less a b is = texts_ties a b ∙ ap is_eq is

same-greater : (a b : List ℕ) → slice_cmp nat_cmp a b ≡ Greater → same a b ≡ false
same-greater a b is = texts_ties a b ∙ ap is_eq is

same-equal : (a b : List ℕ) → slice_cmp nat_cmp a b ≡ Equal → same a b ≡ true
same-equal a b is = texts_ties a b ∙ ap is_eq is

-- what is found at the first entry, and behind it
found-here : {V : Type 0} (k : List ℕ) (e : Entry V) (es : List (Entry V)) → same k e.0 ≡ true → found (e ∷ es) k ≡ Some e.1
found-here k e es is = ap (λ (b : Bool). cond b (Some e.1) (found es k)) is

found-behind : {V : Type 0} (k : List ℕ) (e : Entry V) (es : List (Entry V)) → same k e.0 ≡ false → found (e ∷ es) k ≡ found es k
found-behind k e es is = ap (λ (b : Bool). cond b (Some e.1) (found es k)) is

-- a key that comes before all isn't found
found-below : {V : Type 0} (k : List ℕ) (es : List (Entry V)) → AllByRecursion (λ d. slice_cmp nat_cmp k d ≡ Less) (keys_of es) → found es k ≡ None
found-below k [] all = refl
found-below k (e ∷ es) all = found-behind k e es (same-less k e.0 all.0) ∙ found-below k es all.1

module _ {V : Type 0} (none : V) (k : List ℕ) (g : V → V) where
  -- the changed key
  pub found-changed : (es : List (Entry V)) → IsRising (keys_of es) → found (changed none k g es) k ≡ Some (g (value_or none (found es k)))
  unfolding IsStrictlySortedBy
  found-changed [] rising = found-here k (k, g none) [] (same-refl k)
  found-changed (e ∷ es) rising = by (slice_cmp nat_cmp k e.0) refl (found-changed es rising.1)
    where
      by : (o : Ordering) → slice_cmp nat_cmp k e.0 ≡ o → found (changed none k g es) k ≡ Some (g (value_or none (found es k)))
          → found (changed none k g (e ∷ es)) k ≡ Some (g (value_or none (found (e ∷ es) k)))
      by Less is rest =
          ap (λ (l : List (Entry V)). found l k) (changed-less none k g e es is)
          ∙ found-here k (k, g none) (e ∷ es) (same-refl k)
          ∙ ap (λ (v : Option V). Some (g (value_or none v))) (sym (found-below k (e ∷ es) (is, All-above k e.0 (keys_of es) is rising.0)))
      by Equal is rest =
          ap (λ (l : List (Entry V)). found l k) (changed-equal none k g e es is)
          ∙ found-here k (e.0, g e.1) es (same-equal k e.0 is)
          ∙ ap (λ (v : Option V). Some (g (value_or none v))) (sym (found-here k e es (same-equal k e.0 is)))
      by Greater is rest =
          ap (λ (l : List (Entry V)). found l k) (changed-greater none k g e es is)
          ∙ found-behind k e (changed none k g es) (same-greater k e.0 is)
          ∙ rest
          ∙ ap (λ (v : Option V). Some (g (value_or none v))) (sym (found-behind k e es (same-greater k e.0 is)))

  -- the other keys
  pub found-other : (q : List ℕ) (es : List (Entry V)) → same k q ≡ false → found (changed none k g es) q ≡ found es q
  found-other q [] other = found-behind q (k, g none) [] (nat_list_eq_equiv.symm q k ∙ other)
  found-other q (e ∷ es) other = by (slice_cmp nat_cmp k e.0) refl (found-other q es other)
    where
      by : (o : Ordering) → slice_cmp nat_cmp k e.0 ≡ o → found (changed none k g es) q ≡ found es q → found (changed none k g (e ∷ es)) q ≡ found (e ∷ es) q
      by Less is rest =
          ap (λ (l : List (Entry V)). found l q) (changed-less none k g e es is)
          ∙ found-behind q (k, g none) (e ∷ es) (nat_list_eq_equiv.symm q k ∙ other)
      by Equal is rest =
          let off : same q e.0 ≡ false = subst (λ (b : List ℕ). same q b ≡ false) (Equal-same k e.0 is) (nat_list_eq_equiv.symm q k ∙ other) in
          ap (λ (l : List (Entry V)). found l q) (changed-equal none k g e es is)
          ∙ found-behind q (e.0, g e.1) es off
          ∙ sym (found-behind q e es off)
      by Greater is rest =
          ap (λ (l : List (Entry V)). found l q) (changed-greater none k g e es is)
          ∙ ap (λ (o : Option V). cond (same q e.0) (Some e.1) o) rest

  -- what holds of the key and of all keys holds of all once it is changed
  pub All-keys-changed : (P : List ℕ → Type 0) (es : List (Entry V)) → P k → AllByRecursion P (keys_of es) → AllByRecursion P (keys_of (changed none k g es))
  All-keys-changed P [] here all = (here, tt)
  All-keys-changed P (e ∷ es) here all = by (slice_cmp nat_cmp k e.0) (All-keys-changed P es here all.1)
    where
      by : (o : Ordering) → AllByRecursion P (keys_of (changed none k g es)) → AllByRecursion P (keys_of (change_by o none k g e es (changed none k g es)))
      by Less rest = (here, all)
      by Equal rest = all
      by Greater rest = (all.0, rest)

  -- the keys rise once one is changed
  pub changed-rising : (es : List (Entry V)) → IsRising (keys_of es) → IsRising (keys_of (changed none k g es))
  unfolding IsStrictlySortedBy
  changed-rising [] rising = (tt, tt)
  changed-rising (e ∷ es) rising = by (slice_cmp nat_cmp k e.0) refl (changed-rising es rising.1)
    where
      by : (o : Ordering) → slice_cmp nat_cmp k e.0 ≡ o → IsRising (keys_of (changed none k g es)) → IsRising (keys_of (change_by o none k g e es (changed none k g es)))
      by Less is rest = ((is, All-above k e.0 (keys_of es) is rising.0), rising)
      by Equal is rest = rising
      by Greater is rest = (All-keys-changed (λ d. slice_cmp nat_cmp e.0 d ≡ Less) es (nat_list_cmp_total.antisymm e.0 k ∙ ap ordering_reverse is) rising.0, rest)

  -- what is found at each key
  pub found-changed_all : (es : List (Entry V)) (q : List ℕ) → IsRising (keys_of es) → found (changed none k g es) q ≡ cond (same k q) (Some (g (value_or none (found es k)))) (found es q)
  found-changed_all es q rising = by (same k q) refl
    where
      by : (b : Bool) → same k q ≡ b → found (changed none k g es) q ≡ cond b (Some (g (value_or none (found es k)))) (found es q)
      by true is = ap (found (changed none k g es)) (sym ((bytes_decides k q).0 is)) ∙ found-changed es rising
      by false is = found-other q es is

-- no keys rise
nothing-rising : IsRising []
unfolding IsStrictlySortedBy
nothing-rising = tt

module _ {V : Type 0} where
  -- nothing isn't something
  pub None-Some : {P : Type 0} (v : V) → None ≡ Some v → P
  None-Some v is = absurd (let clash : false ≡ true = ap is_some is in cc)

  -- entries in order are the same where the same is found at each key
  heads-same : (e d : Entry V) (es ds : List (Entry V)) → IsRising (keys_of (e ∷ es)) → IsRising (keys_of (d ∷ ds)) → found (e ∷ es) e.0 ≡ found (d ∷ ds) e.0
      → found (e ∷ es) d.0 ≡ found (d ∷ ds) d.0 → slice_cmp nat_cmp e.0 d.0 ≡ Equal
  unfolding IsStrictlySortedBy
  heads-same e d es ds rising_e rising_d at_e at_d = by (slice_cmp nat_cmp e.0 d.0) refl
    where
      by : (o : Ordering) → slice_cmp nat_cmp e.0 d.0 ≡ o → slice_cmp nat_cmp e.0 d.0 ≡ Equal
      by Less is =
          None-Some e.1 (sym (found-below e.0 (d ∷ ds) (is, All-above e.0 d.0 (keys_of ds) is rising_d.0)) ∙ sym at_e ∙ found-here e.0 e es (same-refl e.0))
      by Equal is = is
      by Greater is =
          let back : slice_cmp nat_cmp d.0 e.0 ≡ Less = nat_list_cmp_total.antisymm d.0 e.0 ∙ ap ordering_reverse is in
          None-Some d.1 (sym (found-below d.0 (e ∷ es) (back, All-above d.0 e.0 (keys_of es) back rising_e.0)) ∙ at_d ∙ found-here d.0 d ds (same-refl d.0))

  pub entries-same : (es ds : List (Entry V)) → IsRising (keys_of es) → IsRising (keys_of ds) → ((q : List ℕ) → found es q ≡ found ds q) → es ≡ ds
  unfolding IsStrictlySortedBy
  entries-same [] [] rising_e rising_d agree = refl
  entries-same [] (d ∷ ds) rising_e rising_d agree = None-Some d.1 (agree d.0 ∙ found-here d.0 d ds (same-refl d.0))
  entries-same (e ∷ es) [] rising_e rising_d agree = None-Some e.1 (sym (agree e.0) ∙ found-here e.0 e es (same-refl e.0))
  entries-same (e ∷ es) (d ∷ ds) rising_e rising_d agree =
      ap₂ (λ (first : Entry V) (rest : List (Entry V)). first ∷ rest)
      (ap₂ (λ (k : List ℕ) (v : V). (k, v)) keys values)
      (entries-same es ds rising_e.1 rising_d.1 (λ q. behind q (same q e.0) refl))
    where
      keys : e.0 ≡ d.0
      keys = Equal-same e.0 d.0 (heads-same e d es ds rising_e rising_d (agree e.0) (agree d.0))

      values : e.1 ≡ d.1
      values =
          ap (λ (o : Option V). unwrap_or o e.1)
          (sym (found-here e.0 e es (same-refl e.0)) ∙ agree e.0 ∙ found-here e.0 d ds (subst (λ (k : List ℕ). same e.0 k ≡ true) keys (same-refl e.0)))

      behind : (q : List ℕ) (b : Bool) → same q e.0 ≡ b → found es q ≡ found ds q
      behind q true is =
          let at : q ≡ e.0 = (bytes_decides q e.0).0 is in
          ap (found es) at
          ∙ found-below e.0 es rising_e.0
          ∙ sym (found-below d.0 ds rising_d.0)
          ∙ ap (found ds) (sym (at ∙ keys))
      behind q false is =
          sym (found-behind q e es is)
          ∙ agree q
          ∙ found-behind q d ds (subst (λ (k : List ℕ). same q k ≡ false) keys is)

  -- entries put in turn
  found-fold : (es acc : List (Entry V)) (f : List ℕ → Option V) (q : List ℕ) → IsRising (keys_of acc) → ((k : List ℕ) → found acc k ≡ f k)
      → found (fold put acc es) q ≡ update_all same f es q
  found-fold [] acc f q rising agree = agree q
  found-fold (e ∷ es) acc f q rising agree =
      found-fold es (put acc e) (λ k. cond (same e.0 k) (Some e.1) (f k)) q (changed-rising e.1 e.0 (λ v. e.1) acc rising)
      (λ k. found-changed_all e.1 e.0 (λ v. e.1) acc k rising ∙ ap (λ (o : Option V). cond (same e.0 k) (Some e.1) o) (agree k))

  pub fold-rising : (es acc : List (Entry V)) → IsRising (keys_of acc) → IsRising (keys_of (fold put acc es))
  fold-rising [] acc rising = rising
  fold-rising (e ∷ es) acc rising = fold-rising es (put acc e) (changed-rising e.1 e.0 (λ v. e.1) acc rising)

  pub All-keys-fold : (P : List ℕ → Type 0) (es acc : List (Entry V)) → AllByRecursion P (keys_of es) → AllByRecursion P (keys_of acc) → AllByRecursion P (keys_of (fold put acc es))
  All-keys-fold P [] acc all before = before
  All-keys-fold P (e ∷ es) acc all before = All-keys-fold P es (put acc e) all.1 (All-keys-changed e.1 e.0 (λ v. e.1) P acc all.0 before)

  -- entries of different keys are found where they stand, once they are in order
  pub found-in_order : (es : List (Entry V)) (q : List ℕ) → IsDistinct same (keys_of es) → found (fold put [] es) q ≡ found es q
  found-in_order es q apart = found-fold es [] (λ k. None) q nothing-rising (λ k. refl) ∙ update_all_none nat_list_eq_equiv same (λ x y. refl) es q apart

  -- a change, from what is found at each key
  pub in_order-changed : (none : V) (k : List ℕ) (g : V → V) (es ds : List (Entry V)) → IsDistinct same (keys_of es) → IsDistinct same (keys_of ds)
      → found ds k ≡ Some (g (value_or none (found es k))) → ((q : List ℕ) → same k q ≡ false → found ds q ≡ found es q)
      → fold put [] ds ≡ changed none k g (fold put [] es)
  in_order-changed none k g es ds apart_e apart_d here others =
      entries-same (fold put [] ds) (changed none k g (fold put [] es)) (fold-rising ds [] nothing-rising) (changed-rising none k g (fold put [] es) (fold-rising es [] nothing-rising))
      (λ q.
      found-in_order ds q apart_d
      ∙ by q (same k q) refl
      ∙ sym (found-changed_all none k g (fold put [] es) q (fold-rising es [] nothing-rising)))
    where
      by : (q : List ℕ) (b : Bool) → same k q ≡ b → found ds q ≡ cond (same k q) (Some (g (value_or none (found (fold put [] es) k)))) (found (fold put [] es) q)
      by q true is =
          ap (found ds) (sym ((bytes_decides k q).0 is))
          ∙ here
          ∙ ap (λ (o : Option V). Some (g (value_or none o))) (sym (found-in_order es k apart_e))
          ∙ ap (λ (b : Bool). cond b (Some (g (value_or none (found (fold put [] es) k)))) (found (fold put [] es) q)) (sym is)
      by q false is =
          others q is
          ∙ sym (found-in_order es q apart_e)
          ∙ ap (λ (b : Bool). cond b (Some (g (value_or none (found (fold put [] es) k)))) (found (fold put [] es) q)) (sym is)
