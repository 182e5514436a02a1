-- The contents of a field rise in byte order, and are just those that occur.
use Rattle.std.proofs.Common.{◌≡◌, ◌↔◌, ◌⊎◌, ℕ, zero, suc, ◌<◌, List, [], ◌∷◌, map, length, slice_index_or, Option, None, Some, Contains, Ordering, Less, Equal, Greater, nat_cmp, is_eq, refl, sym, ap, subst, ◌∙◌, inl, inr, arith}
use Rattle.std.specs.List.{AllByRecursion}
use Rattle.std.specs.List.Sorted.{IsStrictlySortedBy}
use Rattle.std.specs.Ordering.{ordering_reverse}
use Rattle.std.specs.Cmp.Lexicographic.{slice_cmp, bytes_decides, texts_ties, nat_list_cmp_total}
use Rattle.ff_rec.specs.Contents.{IsRising, Occurs, ContentsLaw}
use Rattle.ff_rec.specs.Fields.{field_at, put_by, put_content, put_if_there, contents}
use Rattle.ff_rec.specs.Lines.{Rec}

-- a list has its first and what its rest has
pub Contains-first : {X : Type 0} (x : X) (xs : List X) → Contains (x ∷ xs) x
Contains-first x xs = (0, omega arith, refl)

pub Contains-rest : {X : Type 0} (y : X) (xs : List X) (x : X) → Contains xs x → Contains (y ∷ xs) x
Contains-rest y xs x h = (suc h.0, omega (arith, h.1), h.2)

-- and nothing else
pub Contains-cases : {X : Type 0} (y : X) (xs : List X) (x : X) → Contains (y ∷ xs) x → (y ≡ x) ⊎ Contains xs x
Contains-cases {X} y xs x h = at h.0 h.1 h.2
  where
    at : (k : ℕ) → k < length (y ∷ xs) → slice_index_or (y ∷ xs) k x ≡ x → (y ≡ x) ⊎ Contains xs x
    at zero below is = inl is
    at (suc k) below is = inr (k, omega arith, is)

-- an empty list has nothing
pub Contains-nil : {X : Type 0} (x : X) → ¬ (Contains [] x)
Contains-nil x h = omega (arith, h.1)

-- byte order tells contents apart
pub Equal-same : (a b : List ℕ) → slice_cmp nat_cmp a b ≡ Equal → a ≡ b
Equal-same a b e = (bytes_decides a b).0 (texts_ties a b ∙ ap is_eq e)

-- what stands above is what stands below, the other way round
Greater-Less : (a b : List ℕ) → slice_cmp nat_cmp a b ≡ Greater → slice_cmp nat_cmp b a ≡ Less
Greater-Less a b e = nat_list_cmp_total.antisymm b a ∙ ap ordering_reverse e

-- what holds of each and of one more holds of each once that is put
put_content-All : (P : List ℕ → Type 0) (content : List ℕ) (cs : List (List ℕ)) → P content → AllByRecursion P cs → AllByRecursion P (put_content content cs)
put_content-All P content [] here all = (here, tt)
put_content-All P content (first ∷ others) here all = by (slice_cmp nat_cmp content first) (put_content-All P content others here all.1)
  where
    by : (o : Ordering) → AllByRecursion P (put_content content others) → AllByRecursion P (put_by o content first others (put_content content others))
    by Less placed = (here, all)
    by Equal placed = all
    by Greater placed = (all.0, placed)

-- what is above a content is above one that comes before it
pub All-above : (a b : List ℕ) (cs : List (List ℕ)) → slice_cmp nat_cmp a b ≡ Less → AllByRecursion (λ c. slice_cmp nat_cmp b c ≡ Less) cs → AllByRecursion (λ c. slice_cmp nat_cmp a c ≡ Less) cs
All-above a b [] less all = tt
All-above a b (c ∷ cs) less all = (nat_list_cmp_total.trans a b c less all.0, All-above a b cs less all.1)

-- a rising list rises once a content is put into it
put_content-rising : (content : List ℕ) (cs : List (List ℕ)) → IsRising cs → IsRising (put_content content cs)
unfolding IsStrictlySortedBy
put_content-rising content [] rising = (tt, tt)
put_content-rising content (first ∷ others) rising = by (slice_cmp nat_cmp content first) refl (put_content-rising content others rising.1)
  where
    by : (o : Ordering) → slice_cmp nat_cmp content first ≡ o → IsRising (put_content content others) → IsRising (put_by o content first others (put_content content others))
    by Less is placed = ((is, All-above content first others is rising.0), rising)
    by Equal is placed = rising
    by Greater is placed = (put_content-All (λ c. slice_cmp nat_cmp first c ≡ Less) content others (Greater-Less content first is) rising.0, placed)

-- what is there once a content is put
put_content-Contains : (content : List ℕ) (cs : List (List ℕ)) (c : List ℕ) → Contains (put_content content cs) c ↔ ((content ≡ c) ⊎ Contains cs c)
put_content-Contains content [] c = (Contains-cases content [] c, λ h. elim h [ inl e ↦ subst (Contains (content ∷ [])) e (Contains-first content []) | inr there ↦ absurd (Contains-nil c there) ])
put_content-Contains content (first ∷ others) c = by (slice_cmp nat_cmp content first) refl (put_content-Contains content others c)
  where
    by : (o : Ordering) → slice_cmp nat_cmp content first ≡ o → Contains (put_content content others) c ↔ ((content ≡ c) ⊎ Contains others c)
        → Contains (put_by o content first others (put_content content others)) c ↔ ((content ≡ c) ⊎ Contains (first ∷ others) c)
    by Less is placed = (
      Contains-cases content (first ∷ others) c,
      λ h. elim h [ inl e ↦ subst (Contains (content ∷ first ∷ others)) e (Contains-first content (first ∷ others)) | inr old ↦ Contains-rest content (first ∷ others) c old ],
    )
    by Equal is placed = (
      λ h. inr h,
      λ h. elim h [ inl e ↦ subst (Contains (first ∷ others)) (sym (Equal-same content first is) ∙ e) (Contains-first first others) | inr old ↦ old ],
    )
    by Greater is placed = (
      λ h. elim (Contains-cases first (put_content content others) c h) [
        | inl e ↦ inr (subst (Contains (first ∷ others)) e (Contains-first first others))
        | inr below ↦ elim (placed.0 below) [ inl e ↦ inl e | inr old ↦ inr (Contains-rest first others c old) ]
      ],
      λ h. elim h [
        | inl e ↦ Contains-rest first (put_content content others) c (placed.1 (inl e))
        | inr old ↦ elim (Contains-cases first others c old) [
          | inl e ↦ subst (Contains (first ∷ put_content content others)) e (Contains-first first (put_content content others))
          | inr behind ↦ Contains-rest first (put_content content others) c (placed.1 (inr behind))
        ]
      ],
    )

-- of a content that may not be there
put_if_there-rising : (o : Option (List ℕ)) (cs : List (List ℕ)) → IsRising cs → IsRising (put_if_there o cs)
put_if_there-rising None cs rising = rising
put_if_there-rising (Some content) cs rising = put_content-rising content cs rising

put_if_there-Contains : (o : Option (List ℕ)) (cs : List (List ℕ)) (c : List ℕ) → Contains (put_if_there o cs) c ↔ ((o ≡ Some c) ⊎ Contains cs c)
put_if_there-Contains None cs c = (λ h. inr h, λ h. elim h [ inl e ↦ absurd (cc) | inr old ↦ old ])
put_if_there-Contains (Some content) cs c =
    let put = put_content-Contains content cs c in (
      λ h. elim (put.0 h) [ inl e ↦ inl (ap Some e) | inr old ↦ inr old ],
      λ h. elim h [ inl e ↦ put.1 (inl (cc)) | inr old ↦ put.1 (inr old) ],
    )

pub contents-rising : (f : ℕ) (xs : List Rec) → IsRising (contents f xs)
unfolding IsStrictlySortedBy
contents-rising f [] = tt
contents-rising f (x ∷ xs) = put_if_there-rising (field_at f x) (contents f xs) (contents-rising f xs)

pub contents-Occurs : (f : ℕ) (xs : List Rec) (c : List ℕ) → Contains (contents f xs) c ↔ Occurs f xs c
contents-Occurs f [] c = (λ h. absurd (Contains-nil c h), λ h. absurd (Contains-nil (Some c) h))
contents-Occurs f (x ∷ xs) c =
    let put = put_if_there-Contains (field_at f x) (contents f xs) c in
    let later = contents-Occurs f xs c in
    let there = map (field_at f) xs in (
      λ h. elim (put.0 h) [
        | inl e ↦ subst (Contains (field_at f x ∷ there)) e (Contains-first (field_at f x) there)
        | inr old ↦ Contains-rest (field_at f x) there (Some c) (later.0 old)
      ],
      λ h. elim (Contains-cases (field_at f x) there (Some c) h) [ inl e ↦ put.1 (inl e) | inr old ↦ put.1 (inr (later.1 old)) ],
    )

pub contents-law : ContentsLaw
contents-law f xs = (contents-rising f xs, contents-Occurs f xs)
