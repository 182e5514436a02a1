-- Lists of queues, of which one is changed.
use Rattle.std.proofs.Common.{◌≡◌, ℕ, zero, suc, ◌+◌, ◌<◌, ◌≤◌, ◌==◌, if◌then◌else◌, List, [], ◌∷◌, ◌++◌, length, get_or, refl, sym, ap, subst, ◌∙◌, inl, inr, append_assoc, append-nil, arith}
use Rattle.std.proofs.Math.ListN.{set}
use Rattle.std.proofs.lemmas.Bool.{cases_Bool, cond-true, cond-false, eqb-true, eqb-false}
use Rattle.std.proofs.lemmas.List.{get_or-set_same, get_or-set_other, nil_from_length}
use Rattle.std.specs.List.{concat}
use Rattle.ff_rec.specs.Weights.{weigh}
use Rattle.ff_rec.proofs.WeightLaws.{weigh-append}

-- what one queue weighs is part of all
pub concat-at : (h : ℕ → ℕ) (xss : List (List ℕ)) (w : ℕ) → w < length xss → weigh h (get_or xss w []) ≤ weigh h (concat xss)
concat-at h [] w below = absurd (omega arith)
concat-at h (xs ∷ xss) zero below = omega (arith, weigh-append h xs (concat xss))
concat-at h (xs ∷ xss) (suc w) below = omega (arith, weigh-append h xs (concat xss), concat-at h xss w (omega arith))

-- one queue is exchanged for another
pub concat-set : (h : ℕ → ℕ) (xss : List (List ℕ)) (w : ℕ) (ys : List ℕ) → w < length xss
    → weigh h (concat (set xss w ys)) + weigh h (get_or xss w []) ≡ weigh h (concat xss) + weigh h ys
concat-set h [] w ys below = absurd (omega arith)
concat-set h (xs ∷ xss) zero ys below = omega (arith, weigh-append h xs (concat xss), weigh-append h ys (concat xss))
concat-set h (xs ∷ xss) (suc w) ys below =
    omega (arith, weigh-append h xs (concat xss), weigh-append h xs (concat (set xss w ys)), concat-set h xss w ys (omega arith))

-- nothing in queues of which each is empty
pub concat-empty : (xss : List (List ℕ)) → ((j : ℕ) → j < length xss → length (get_or xss j []) ≡ 0) → concat xss ≡ []
concat-empty [] none = refl
concat-empty (xs ∷ xss) none =
    ap (λ l. l ++ concat xss) (nil_from_length xs (none 0 (omega arith))) ∙ concat-empty xss (λ j under. none (suc j) (omega (arith, under)))

-- worker `w` has a number more
pub queue-more : (held : List (List ℕ)) (w j id : ℕ) (from to : List ℕ) → w < length held → to ≡ from ++ get_or held j []
    → to ++ (if w == j then id ∷ [] else []) ≡ from ++ get_or (set held w (get_or held w [] ++ id ∷ [])) j []
queue-more held w j id from to below was = elim (cases_Bool (w == j)) [
  | inl is ↦ ap (λ l. to ++ l) (cond-true (w == j) (id ∷ []) [] is)
      ∙ ap (λ l. l ++ id ∷ []) was
      ∙ append_assoc from (get_or held j []) (id ∷ [])
      ∙ ap (λ l. from ++ l)
      (subst (λ k. get_or held k [] ++ id ∷ [] ≡ get_or (set held w (get_or held w [] ++ id ∷ [])) k []) (eqb-true w j is)
      (sym (get_or-set_same held w (get_or held w [] ++ id ∷ []) [] below)))
  | inr isnt ↦ ap (λ l. to ++ l) (cond-false (w == j) (id ∷ []) [] isnt)
      ∙ append-nil to
      ∙ was
      ∙ ap (λ l. from ++ l) (sym (get_or-set_other held w j (get_or held w [] ++ id ∷ []) [] (λ same. eqb-false w j isnt (sym same))))
]

-- the oldest number of worker `w` is back
pub queue-less : (held : List (List ℕ)) (w j id : ℕ) (rest from to : List ℕ) → w < length held → get_or held w [] ≡ id ∷ rest
    → to ≡ from ++ get_or held j [] → to ≡ (from ++ (if w == j then id ∷ [] else [])) ++ get_or (set held w rest) j []
queue-less held w j id rest from to below first was = elim (cases_Bool (w == j)) [
  | inl is ↦ was
      ∙ ap (λ l. from ++ l) (subst (λ k. get_or held k [] ≡ id ∷ rest) (eqb-true w j is) first)
      ∙ sym (append_assoc from (id ∷ []) rest)
      ∙ ap (λ l. (from ++ l) ++ rest) (sym (cond-true (w == j) (id ∷ []) [] is))
      ∙ ap (λ l. (from ++ (if w == j then id ∷ [] else [])) ++ l)
      (subst (λ k. rest ≡ get_or (set held w rest) k []) (eqb-true w j is) (sym (get_or-set_same held w rest [] below)))
  | inr isnt ↦ was
      ∙ ap (λ l. l ++ get_or held j []) (sym (append-nil from) ∙ ap (λ l. from ++ l) (sym (cond-false (w == j) (id ∷ []) [] isnt)))
      ∙ ap (λ l. (from ++ (if w == j then id ∷ [] else [])) ++ l) (sym (get_or-set_other held w j rest [] (λ same. eqb-false w j isnt (sym same))))
]
