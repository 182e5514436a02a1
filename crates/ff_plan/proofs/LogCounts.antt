-- What the logs of masters hold, counted: each task was given to one worker, and each answer was got from one.
use Rattle.std.proofs.Common.{◌≡◌, ℕ, zero, suc, ◌+◌, ◌<◌, ◌≤◌, ◌==◌, if◌then◌else◌, Bool, true, false, List, [], ◌∷◌, ◌++◌, length, refl, ap, subst, ◌∙◌, inl, inr, arith, length-append}
use Rattle.std.proofs.lemmas.Bool.{cases_Bool, cond-true, cond-false, eqb-true}
use Rattle.ff_rec.specs.Lines.{Rec}
use Rattle.ff_rec.specs.Weights.{weigh}
use Rattle.ff_rec.proofs.WeightLaws.{weigh-append}
use Rattle.ff_net.specs.declared.net.Test.{Test}
use Rattle.ff_net.specs.Logs.{Event, Fed, Gave, Got, given, given_to, got_from, IsLegal}
use Rattle.ff_plan.proofs.Totals.{total, total-zero, total-plus, total-one, total-same}

-- the answers that were got, from whichever worker
abbrev pub answers : List Event → List (List Rec)
answers [] = []
answers (Fed t ∷ log) = answers log
answers (Gave w t ∷ log) = answers log
answers (Got w answer ∷ log) = answers log ++ answer ∷ []

-- sums of which no place has more than another sum's
pub total-≤ : (n : ℕ) (f g : ℕ → ℕ) → ((j : ℕ) → j < n → f j ≤ g j) → total n f ≤ total n g
total-≤ zero f g less = omega arith
total-≤ (suc n) f g less = omega (arith, less n (omega arith), total-≤ n f g (λ j below. less j (omega (arith, below))))

weigh-if : {A : Type 0} (h : A → ℕ) (x : A) (c : Bool) → weigh h (if c then x ∷ [] else []) ≡ (if c then h x else 0)
weigh-if h x true = omega arith
weigh-if h x false = refl

-- lists of which the one at place `w` gets an element more
total-more : {A : Type 0} (n w : ℕ) (h : A → ℕ) (x : A) (part : ℕ → List A) → w < n
    → total n (λ j. weigh h (part j ++ (if w == j then x ∷ [] else []))) ≡ total n (λ j. weigh h (part j)) + h x
total-more n w h x part below =
    total-same n (λ j. weigh h (part j ++ (if w == j then x ∷ [] else []))) (λ j. weigh h (part j) + (if w == j then h x else 0))
    (λ j under. omega (arith, weigh-append h (part j) (if w == j then x ∷ [] else []), weigh-if h x (w == j)))
    ∙ total-plus n (λ j. weigh h (part j)) (λ j. if w == j then h x else 0)
    ∙ ap (λ c. total n (λ j. weigh h (part j)) + c) (total-one n w (h x) below)

module _ (n m : ℕ) (p : Test) where
  -- each task was given to one of the workers
  pub given_to-total : (log : List Event) → IsLegal n m p log → (h : Rec → ℕ) → total n (λ j. weigh h (given_to j log)) ≡ weigh h (given log)
  given_to-total [] legal h = total-zero n
  given_to-total (Fed t ∷ log) legal h = given_to-total log legal h
  given_to-total (Gave w t ∷ log) legal h =
      omega (arith, total-more n w h t (λ j. given_to j log) legal.0, given_to-total log legal.2 h, weigh-append h (given log) (t ∷ []))
  given_to-total (Got w answer ∷ log) legal h = given_to-total log legal.2 h

  -- each answer was got from one
  pub got_from-total : (log : List Event) → IsLegal n m p log → (h : List Rec → ℕ) → total n (λ j. weigh h (got_from j log)) ≡ weigh h (answers log)
  got_from-total [] legal h = total-zero n
  got_from-total (Fed t ∷ log) legal h = got_from-total log legal h
  got_from-total (Gave w t ∷ log) legal h = got_from-total log legal.2 h
  got_from-total (Got w answer ∷ log) legal h =
      omega (arith, total-more n w h answer (λ j. got_from j log) legal.0, got_from-total log legal.2 h, weigh-append h (answers log) (answer ∷ []))

  -- no worker answered more often than it was asked
  pub got_from-length : (log : List Event) → IsLegal n m p log → (j : ℕ) → length (got_from j log) ≤ length (given_to j log)
  got_from-length [] legal j = omega arith
  got_from-length (Fed t ∷ log) legal j = got_from-length log legal j
  got_from-length (Gave w t ∷ log) legal j =
      omega (arith, got_from-length log legal.2 j, length-append (given_to j log) (if w == j then t ∷ [] else []))
  got_from-length (Got w answer ∷ log) legal j = elim (cases_Bool (w == j)) [
    | inl is ↦ omega (
      arith,
      subst (λ k. length (got_from k log) < length (given_to k log)) (eqb-true w j is) legal.1,
      length-append (got_from j log) (if w == j then answer ∷ [] else []),
      ap length (cond-true (w == j) (answer ∷ []) [] is),
    )
    | inr isnt ↦ omega (
      arith,
      got_from-length log legal.2 j,
      length-append (got_from j log) (if w == j then answer ∷ [] else []),
      ap length (cond-false (w == j) (answer ∷ []) [] isnt),
    )
  ]
