-- Answers that belong to the tasks of their numbers.
use Rattle.std.proofs.Common.{◌≡◌, ℕ, ◌<◌, ◌==◌, if◌then◌else◌, ◌⊎◌, Bool, true, false, List, [], ◌∷◌, ◌++◌, length, map, refl, sym, ap, subst, ◌∙◌, arith, inl, inr, append-nil, eq-eqb}
use Rattle.std.proofs.lemmas.Bool.{cases_Bool, cond-true, cond-false, eqb-true}
use Rattle.ff_loop.specs.Events.{SchedEvent, HasGiven, AreAnswered}
use Rattle.ff_loop.specs.Moves.{Move, Fed, Gave, Got, events_on, asked, answered, numbers_to, numbers_from, IsLegal}
use Rattle.ff_loop.proofs.MasterCounts.{numbers_to-length, numbers_from-length}
use Rattle.ff_tasks.specs.Jobs.{Begins}
use Rattle.ff_tasks.proofs.Firsts.{Begins-trans}
use Rattle.ff_tasks.proofs.Places.{IsAt, IsAt-some, IsAt-same, IsAt-begins, IsAt-last, IsAt-push, IsAt-map}

-- a front of a list that begins another
front : {X : Type 0} (xs more all : List X) → Begins (xs ++ more) all → Begins xs all
front xs more all begins = Begins-trans xs (xs ++ more) all (record { more = more; is = refl }) begins

-- the last of these, at its place
last-at : {X : Type 0} (w : ℕ) (xs all : List X) (x : X) → Begins (xs ++ (if w == w then x ∷ [] else [])) all → IsAt (length xs) x all
last-at w xs all x begins = IsAt-begins (length xs) x (xs ++ x ∷ []) all
    (subst (λ l. Begins (xs ++ l) all) (cond-true (w == w) (x ∷ []) [] (eq-eqb w w refl)) begins) (IsAt-last x xs)

module _ {T A : Type 0} where
  -- one of two lists with one element more each
  given-push : (k id i : ℕ) (t u : T) (is : List ℕ) (ts : List T) (log : List (SchedEvent T A)) → length is ≡ length ts
      → IsAt k id (is ++ i ∷ []) → IsAt k t (ts ++ u ∷ []) → (IsAt k id is → IsAt k t ts → HasGiven id t log) → ((i ≡ id) × (u ≡ t)) ⊎ HasGiven id t log
  given-push k id i t u is ts log same number task older = elim (IsAt-push k id i is number) [
    | inl old ↦ (elim (IsAt-push k t u ts task) [
      | inl old' ↦ inr (older old.0 old'.0)
      | inr new ↦ absurd (omega (arith, old.1, new.0, same))
    ])
    | inr new ↦ (elim (IsAt-push k t u ts task) [
      | inl old ↦ absurd (omega (arith, old.1, new.0, same))
      | inr new' ↦ inl (new.1, new'.1)
    ])
  ]

  -- the task that was given to a worker at a place has the number that was given to it there
  pub HasGiven-at : (before : List (SchedEvent T A)) (log : List (Move T A)) (j k id : ℕ) (t : T) → IsAt k id (numbers_to j log) → IsAt k t (asked j log)
      → HasGiven id t (events_on before log)
  HasGiven-at before [] j k id t number task = absurd task
  HasGiven-at before (Fed u ∷ log) j k id t number task = HasGiven-at before log j k id t number task
  HasGiven-at before (Got w i a ∷ log) j k id t number task = HasGiven-at before log j k id t number task
  HasGiven-at before (Gave w i u ∷ log) j k id t number task = elim (cases_Bool (w == j)) [
    | inl is ↦ given-push k id i t u (numbers_to j log) (asked j log) (events_on before log) (numbers_to-length j log)
        (subst (λ l. IsAt k id (numbers_to j log ++ l)) (cond-true (w == j) (i ∷ []) [] is) number)
        (subst (λ l. IsAt k t (asked j log ++ l)) (cond-true (w == j) (u ∷ []) [] is) task)
        (λ number task. HasGiven-at before log j k id t number task)
    | inr isnt ↦ inr (HasGiven-at before log j k id t
        (subst (λ l. IsAt k id l) (ap (λ l. numbers_to j log ++ l) (cond-false (w == j) (i ∷ []) [] isnt) ∙ append-nil (numbers_to j log)) number)
        (subst (λ l. IsAt k t l) (ap (λ l. asked j log ++ l) (cond-false (w == j) (u ∷ []) [] isnt) ∙ append-nil (asked j log)) task))
  ]

  -- what is known of a log: the first of the tasks, numbers and answers of each of `n` workers
  pub record Fits (n : ℕ) (f : T → A) (tasks : ℕ → List T) (ids : ℕ → List ℕ) (log : List (Move T A)) : Type 0 where
    pub asked : (j : ℕ) → j < n → Begins (asked j log) (tasks j)
    pub answered : (j : ℕ) → j < n → Begins (answered j log) (map f (tasks j))
    pub numbers_to : (j : ℕ) → j < n → Begins (numbers_to j log) (ids j)
    pub numbers_from : (j : ℕ) → j < n → Begins (numbers_from j log) (ids j)

  -- the same of what came before
  Fits-gave : (n : ℕ) (f : T → A) (tasks : ℕ → List T) (ids : ℕ → List ℕ) (w id : ℕ) (t : T) (log : List (Move T A)) → Fits n f tasks ids (Gave w id t ∷ log) → Fits n f tasks ids log
  Fits-gave n f tasks ids w id t log fits = record {
    asked = λ j below. front (asked j log) (if w == j then t ∷ [] else []) (tasks j) (fits.asked j below);
    answered = fits.answered;
    numbers_to = λ j below. front (numbers_to j log) (if w == j then id ∷ [] else []) (ids j) (fits.numbers_to j below);
    numbers_from = fits.numbers_from;
  }

  Fits-got : (n : ℕ) (f : T → A) (tasks : ℕ → List T) (ids : ℕ → List ℕ) (w id : ℕ) (a : A) (log : List (Move T A)) → Fits n f tasks ids (Got w id a ∷ log) → Fits n f tasks ids log
  Fits-got n f tasks ids w id a log fits = record {
    asked = fits.asked;
    answered = λ j below. front (answered j log) (if w == j then a ∷ [] else []) (map f (tasks j)) (fits.answered j below);
    numbers_to = fits.numbers_to;
    numbers_from = λ j below. front (numbers_from j log) (if w == j then id ∷ [] else []) (ids j) (fits.numbers_from j below);
  }

  -- the answer that was got last is that of the task with its number
  answer-got : (n : ℕ) (f : T → A) (tasks : ℕ → List T) (ids : ℕ → List ℕ) (w id : ℕ) (a : A) (before : List (SchedEvent T A)) (log : List (Move T A))
      → w < n → length (answered w log) < length (asked w log) → Fits n f tasks ids (Got w id a ∷ log)
      → (t : T) × HasGiven id t (events_on before log) × (a ≡ f t)
  answer-got n f tasks ids w id a before log below owed fits =
      let k = length (answered w log) in
      let task = IsAt-some k (asked w log) owed in
      let number = IsAt-some k (numbers_to w log) (omega (arith, owed, numbers_to-length w log)) in
      let there : IsAt k (f task.0) (map f (tasks w)) = IsAt-map f k task.0 (tasks w) (IsAt-begins k task.0 (asked w log) (tasks w) (fits.asked w below) task.1) in
      let came : IsAt k a (map f (tasks w)) = last-at w (answered w log) (map f (tasks w)) a (fits.answered w below) in
      let from : IsAt k id (ids w) = subst (λ m. IsAt m id (ids w)) (numbers_from-length w log) (last-at w (numbers_from w log) (ids w) id (fits.numbers_from w below)) in
      let to : IsAt k number.0 (ids w) = IsAt-begins k number.0 (numbers_to w log) (ids w) (fits.numbers_to w below) number.1 in
      let same : number.0 ≡ id = IsAt-same k number.0 id (ids w) to from in (
        task.0,
        HasGiven-at before log w k id task.0 (subst (λ m. IsAt k m (numbers_to w log)) same number.1) task.1,
        IsAt-same k a (f task.0) (map f (tasks w)) came there,
      )

  -- so all answers are those of their tasks
  pub AreAnswered-fits : (n : ℕ) (f : T → A) (tasks : ℕ → List T) (ids : ℕ → List ℕ) (made : List (SchedEvent T A) → List T) (before : List (SchedEvent T A)) (log : List (Move T A))
      → IsLegal n made before log → Fits n f tasks ids log → AreAnswered f before → AreAnswered f (events_on before log)
  AreAnswered-fits n f tasks ids made before [] legal fits old = old
  AreAnswered-fits n f tasks ids made before (Fed t ∷ log) legal fits old =
      AreAnswered-fits n f tasks ids made before log legal (record { asked = fits.asked; answered = fits.answered; numbers_to = fits.numbers_to; numbers_from = fits.numbers_from }) old
  AreAnswered-fits n f tasks ids made before (Gave w id t ∷ log) legal fits old =
      AreAnswered-fits n f tasks ids made before log legal.2 (Fits-gave n f tasks ids w id t log fits) old
  AreAnswered-fits n f tasks ids made before (Got w id a ∷ log) legal fits old = (
    answer-got n f tasks ids w id a before log legal.0 legal.1 fits,
    AreAnswered-fits n f tasks ids made before log legal.2 (Fits-got n f tasks ids w id a log fits) old,
  )
