-- Lists of records parted by a test of one field, and what is made of the records of each content alone.
use Rattle.std.proofs.Common.{◌≡◌, ℕ, ◌+◌, Bool, true, false, cond, not, is_none, List, [], ◌∷◌, ◌++◌, filter, Option, None, Some, Ordering, Less, Equal, Greater, nat_cmp, refl, sym, ap, ◌∙◌, arith}
use Rattle.std.proofs.lemmas.Grind.{flat_map-append}
use Rattle.std.specs.List.{AllByRecursion, flat_map}
use Rattle.std.specs.List.Sorted.{IsStrictlySortedBy}
use Rattle.std.specs.Cmp.Lexicographic.{slice_cmp, bytes_decides}
use Rattle.ff_rec.specs.Contents.{IsRising}
use Rattle.ff_rec.specs.Fields.{field_at, same_bytes, passes, having, lacking, put_by, put_content, put_if_there, contents}
use Rattle.ff_rec.specs.Lines.{Rec}
use Rattle.ff_rec.specs.Weights.{weigh, Same}
use Rattle.ff_rec.proofs.Rising.{Equal-same, All-above, contents-rising}
use Rattle.ff_rec.proofs.WeightLaws.{weigh-append, Same-parted, Same-flat_map}

-- what holds of each holds of each that a test keeps
filter-All : {A : Type 0} (P : A → Type 0) (test : A → Bool) (xs : List A) → AllByRecursion P xs → AllByRecursion P (filter test xs)
filter-All P test [] all = tt
filter-All {A} P test (x ∷ xs) all = by (test x) (filter-All P test xs all.1)
  where
    by : (e : Bool) → AllByRecursion P (filter test xs) → AllByRecursion P (cond e (x ∷ filter test xs) (filter test xs))
    by true rest = (all.0, rest)
    by false rest = rest

-- a content that comes before all is put in front
put_content-first : (c : List ℕ) (cs : List (List ℕ)) → AllByRecursion (λ d. slice_cmp nat_cmp c d ≡ Less) cs → put_content c cs ≡ c ∷ cs
put_content-first c [] all = refl
put_content-first c (d ∷ ds) all = ap (λ (o : Ordering). put_by o c d ds (put_content c ds)) all.0

-- a test of contents, before and after one is put
filter-put_content : (test : List ℕ → Bool) (c : List ℕ) (cs : List (List ℕ)) → IsRising cs
    → filter test (put_content c cs) ≡ cond (test c) (put_content c (filter test cs)) (filter test cs)
unfolding IsStrictlySortedBy
filter-put_content test c [] rising = refl
filter-put_content test c (d ∷ ds) rising = by (slice_cmp nat_cmp c d) refl (filter-put_content test c ds rising.1)
  where
    greater : (e e' : Bool) → slice_cmp nat_cmp c d ≡ Greater
        → cond e (d ∷ cond e' (put_content c (filter test ds)) (filter test ds)) (cond e' (put_content c (filter test ds)) (filter test ds))
        ≡ cond e' (put_content c (cond e (d ∷ filter test ds) (filter test ds))) (cond e (d ∷ filter test ds) (filter test ds))
    greater true true is = sym (ap (λ (o : Ordering). put_by o c d (filter test ds) (put_content c (filter test ds))) is)
    greater true false is = refl
    greater false true is = refl
    greater false false is = refl

    equal : (e : Bool) → slice_cmp nat_cmp c d ≡ Equal → test d ≡ e
        → cond e (d ∷ filter test ds) (filter test ds)
        ≡ cond e (put_content c (cond e (d ∷ filter test ds) (filter test ds))) (cond e (d ∷ filter test ds) (filter test ds))
    equal true is passed = sym (ap (λ (o : Ordering). put_by o c d (filter test ds) (put_content c (filter test ds))) is)
    equal false is passed = refl

    less : (e : Bool) → slice_cmp nat_cmp c d ≡ Less
        → cond e (c ∷ filter test (d ∷ ds)) (filter test (d ∷ ds)) ≡ cond e (put_content c (filter test (d ∷ ds))) (filter test (d ∷ ds))
    less true is = sym (put_content-first c (filter test (d ∷ ds)) (filter-All (λ x. slice_cmp nat_cmp c x ≡ Less) test (d ∷ ds) (is, All-above c d ds is rising.0)))
    less false is = refl

    by : (o : Ordering) → slice_cmp nat_cmp c d ≡ o
        → filter test (put_content c ds) ≡ cond (test c) (put_content c (filter test ds)) (filter test ds)
        → filter test (put_by o c d ds (put_content c ds)) ≡ cond (test c) (put_content c (filter test (d ∷ ds))) (filter test (d ∷ ds))
    by Less is rest = less (test c) is
    by Equal is rest =
        equal (test d) is refl
        ∙ ap (λ (e : Bool). cond e (put_content c (filter test (d ∷ ds))) (filter test (d ∷ ds))) (ap test (sym (Equal-same c d is)))
    by Greater is rest =
        ap (λ (later : List (List ℕ)). cond (test d) (d ∷ later) later) rest ∙ greater (test d) (test c) is

-- the records that a test of field `f` keeps
abbrev pub kept_by : ℕ → (Option (List ℕ) → Bool) → List Rec → List Rec
kept_by f test xs = filter (λ x. test (field_at f x)) xs

-- their contents are the contents that it keeps
pub contents-kept_by : (f : ℕ) (test : Option (List ℕ) → Bool) (xs : List Rec)
    → contents f (kept_by f test xs) ≡ filter (λ c. test (Some c)) (contents f xs)
contents-kept_by f test [] = refl
contents-kept_by f test (x ∷ xs) = by (field_at f x) refl (contents-kept_by f test xs)
  where
    outside : (o : Option (List ℕ)) (e : Bool) → field_at f x ≡ o
        → contents f (cond e (x ∷ kept_by f test xs) (kept_by f test xs)) ≡ cond e (put_if_there o (contents f (kept_by f test xs))) (contents f (kept_by f test xs))
    outside o true is = ap (λ (p : Option (List ℕ)). put_if_there p (contents f (kept_by f test xs))) is
    outside o false is = refl

    same : (e : Bool) (cs : List (List ℕ)) → cond e cs cs ≡ cs
    same true cs = refl
    same false cs = refl

    by : (o : Option (List ℕ)) → field_at f x ≡ o → contents f (kept_by f test xs) ≡ filter (λ c. test (Some c)) (contents f xs)
        → contents f (kept_by f test (x ∷ xs)) ≡ filter (λ c. test (Some c)) (put_if_there o (contents f xs))
    by None is rest = outside None (test (field_at f x)) is ∙ same (test (field_at f x)) (contents f (kept_by f test xs)) ∙ rest
    by (Some c) is rest =
        outside (Some c) (test (field_at f x)) is
        ∙ ap (λ (o : Option (List ℕ)). cond (test o) (put_content c (contents f (kept_by f test xs))) (contents f (kept_by f test xs))) is
        ∙ ap (λ (cs : List (List ℕ)). cond (test (Some c)) (put_content c cs) cs) rest
        ∙ sym (filter-put_content (λ k. test (Some k)) c (contents f xs) (contents-rising f xs))

-- a test behind another that it implies
filter-filter : {A : Type 0} (inner outer : A → Bool) (xs : List A) → ((x : A) → inner x ≡ true → outer x ≡ true) → filter inner (filter outer xs) ≡ filter inner xs
filter-filter inner outer [] implies = refl
filter-filter {A} inner outer (x ∷ xs) implies = by (outer x) (inner x) refl refl (filter-filter inner outer xs implies)
  where
    by : (o i : Bool) → outer x ≡ o → inner x ≡ i → filter inner (filter outer xs) ≡ filter inner xs
        → filter inner (cond o (x ∷ filter outer xs) (filter outer xs)) ≡ cond i (x ∷ filter inner xs) (filter inner xs)
    by true i is_outer is rest =
        ap (λ (ys : List A). cond (inner x) (x ∷ ys) ys) rest ∙ ap (λ (e : Bool). cond e (x ∷ filter inner xs) (filter inner xs)) is
    by false true is_outer is rest = let clash = implies x is in cc
    by false false is_outer is rest = rest

-- a test behind another that rules it out
filter-none : {A : Type 0} (inner outer : A → Bool) (xs : List A) → ((x : A) → inner x ≡ true → outer x ≡ false) → filter inner (filter outer xs) ≡ []
filter-none inner outer [] excludes = refl
filter-none {A} inner outer (x ∷ xs) excludes = by (outer x) (inner x) refl refl (filter-none inner outer xs excludes)
  where
    by : (o i : Bool) → outer x ≡ o → inner x ≡ i → filter inner (filter outer xs) ≡ []
        → filter inner (cond o (x ∷ filter outer xs) (filter outer xs)) ≡ []
    by false i is_outer is rest = rest
    by true true is_outer is rest = let clash = excludes x is in cc
    by true false is_outer is rest = ap (λ (e : Bool). cond e (x ∷ filter inner (filter outer xs)) (filter inner (filter outer xs))) is ∙ rest

-- a record that holds just `content` in field `f` has it there
passes-same : (content : List ℕ) (o : Option (List ℕ)) → passes (same_bytes content) o ≡ true → o ≡ Some content
passes-same content None passed = cc
passes-same content (Some c) passed = ap Some (sym ((bytes_decides content c).0 passed))

-- the records of a content that the test keeps
having-kept_by : (f : ℕ) (test : Option (List ℕ) → Bool) (content : List ℕ) (xs : List Rec) → test (Some content) ≡ true
    → having f content (kept_by f test xs) ≡ having f content xs
having-kept_by f test content xs kept =
    filter-filter (λ x. passes (same_bytes content) (field_at f x)) (λ x. test (field_at f x)) xs
    (λ x passed. ap test (passes-same content (field_at f x) passed) ∙ kept)

-- the records without field `f` are all kept, or none is
is_none-None : (o : Option (List ℕ)) → is_none o ≡ true → o ≡ None
is_none-None None is = refl
is_none-None (Some c) is = cc

lacking-kept_by : (f : ℕ) (test : Option (List ℕ) → Bool) (xs : List Rec) → test None ≡ true → lacking f (kept_by f test xs) ≡ lacking f xs
lacking-kept_by f test xs kept =
    filter-filter (λ x. is_none (field_at f x)) (λ x. test (field_at f x)) xs (λ x lacks. ap test (is_none-None (field_at f x) lacks) ∙ kept)

lacking-left : (f : ℕ) (test : Option (List ℕ) → Bool) (xs : List Rec) → test None ≡ false → lacking f (kept_by f test xs) ≡ []
lacking-left f test xs left =
    filter-none (λ x. is_none (field_at f x)) (λ x. test (field_at f x)) xs (λ x lacks. ap test (is_none-None (field_at f x) lacks) ∙ left)

-- functions that agree on what a test keeps
flat_map-filter : {A B : Type 0} (g h : A → List B) (test : A → Bool) (xs : List A) → ((x : A) → test x ≡ true → g x ≡ h x)
    → flat_map g (filter test xs) ≡ flat_map h (filter test xs)
flat_map-filter g h test [] agree = refl
flat_map-filter {A} {B} g h test (x ∷ xs) agree = by (test x) refl (flat_map-filter g h test xs agree)
  where
    by : (e : Bool) → test x ≡ e → flat_map g (filter test xs) ≡ flat_map h (filter test xs)
        → flat_map g (cond e (x ∷ filter test xs) (filter test xs)) ≡ flat_map h (cond e (x ∷ filter test xs) (filter test xs))
    by true is rest = ap (λ (ys : List B). ys ++ flat_map g (filter test xs)) (agree x is) ∙ ap (λ (ys : List B). h x ++ ys) rest
    by false is rest = rest

-- records without field `f` have no contents
pub contents-lacking : (f : ℕ) (xs : List Rec) → contents f (lacking f xs) ≡ []
contents-lacking f [] = refl
contents-lacking f (x ∷ xs) = by (field_at f x) refl (contents-lacking f xs)
  where
    by : (o : Option (List ℕ)) → field_at f x ≡ o → contents f (lacking f xs) ≡ [] → contents f (cond (is_none o) (x ∷ lacking f xs) (lacking f xs)) ≡ []
    by None is rest = ap (λ (p : Option (List ℕ)). put_if_there p (contents f (lacking f xs))) is ∙ rest
    by (Some c) is rest = rest

-- what is made of records is made of those of each content alone, and of those without field `f`
pub record IsMadeByContents (made : List Rec → List Rec) (f : ℕ) : Type 0 where
  pub parts : (xs : List Rec) → Same (made xs) (flat_map (λ k. made (having f k xs)) (contents f xs) ++ made (lacking f xs))
  pub nothing : made [] ≡ []

module _ (made : List Rec → List Rec) (f : ℕ) (law : IsMadeByContents made f) where
  -- of the records that a test keeps it is made by the contents that it keeps
  flat_map-kept_by : (test : Option (List ℕ) → Bool) (xs : List Rec)
      → flat_map (λ k. made (having f k (kept_by f test xs))) (contents f (kept_by f test xs))
      ≡ flat_map (λ k. made (having f k xs)) (filter (λ k. test (Some k)) (contents f xs))
  flat_map-kept_by test xs =
      ap (flat_map (λ k. made (having f k (kept_by f test xs)))) (contents-kept_by f test xs)
      ∙ flat_map-filter (λ k. made (having f k (kept_by f test xs))) (λ k. made (having f k xs)) (λ k. test (Some k)) (contents f xs)
      (λ k kept. ap made (having-kept_by f test k xs kept))

  lacking-split : (h : Rec → ℕ) (test : Option (List ℕ) → Bool) (xs : List Rec)
      → weigh h (made (lacking f (kept_by f test xs))) + weigh h (made (lacking f (kept_by f (λ o. not (test o)) xs))) ≡ weigh h (made (lacking f xs))
  lacking-split h test xs = by (test None) refl
    where
      by : (e : Bool) → test None ≡ e
          → weigh h (made (lacking f (kept_by f test xs))) + weigh h (made (lacking f (kept_by f (λ o. not (test o)) xs))) ≡ weigh h (made (lacking f xs))
      by true is = omega (
        arith,
        ap (λ ys. weigh h (made ys)) (lacking-kept_by f test xs is),
        ap (λ ys. weigh h (made ys)) (lacking-left f (λ o. not (test o)) xs (ap not is)),
        ap (weigh h) law.nothing,
      )
      by false is = omega (
        arith,
        ap (λ ys. weigh h (made ys)) (lacking-left f test xs is),
        ap (λ ys. weigh h (made ys)) (lacking-kept_by f (λ o. not (test o)) xs (ap not is)),
        ap (weigh h) law.nothing,
      )

  -- it is made in two parts, of those that a test keeps and of the others
  pub Same-split : (test : Option (List ℕ) → Bool) (xs : List Rec) → Same (made xs) (made (kept_by f test xs) ++ made (kept_by f (λ o. not (test o)) xs))
  Same-split test xs = record { by = weights }
    where
      weights : (h : Rec → ℕ) → weigh h (made xs) ≡ weigh h (made (kept_by f test xs) ++ made (kept_by f (λ o. not (test o)) xs))
      weights h =
          let g : List ℕ → List Rec = λ k. made (having f k xs) in
          let yes : List (List ℕ) = filter (λ k. test (Some k)) (contents f xs) in
          let others : List (List ℕ) = filter (λ k. not (test (Some k))) (contents f xs) in
          let ys = kept_by f test xs in
          let zs = kept_by f (λ o. not (test o)) xs in
          omega (
            arith,
            (law.parts xs).by h,
            (law.parts ys).by h,
            (law.parts zs).by h,
            weigh-append h (flat_map g (contents f xs)) (made (lacking f xs)),
            weigh-append h (flat_map (λ k. made (having f k ys)) (contents f ys)) (made (lacking f ys)),
            weigh-append h (flat_map (λ k. made (having f k zs)) (contents f zs)) (made (lacking f zs)),
            ap (weigh h) (flat_map-kept_by test xs),
            ap (weigh h) (flat_map-kept_by (λ o. not (test o)) xs),
            (Same-flat_map g (Same-parted (λ k. test (Some k)) (contents f xs))).by h,
            ap (weigh h) (flat_map-append g yes others),
            weigh-append h (flat_map g yes) (flat_map g others),
            lacking-split h test xs,
            weigh-append h (made ys) (made zs),
          )
