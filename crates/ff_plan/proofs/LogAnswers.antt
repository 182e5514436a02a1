-- Logs in which the answers are those that the tasks get: there is no answer without its task.
use Rattle.std.proofs.Common.{◌≡◌, ℕ, ◌+◌, ◌<◌, ◌≤◌, ◌==◌, if◌then◌else◌, not, List, [], ◌∷◌, ◌++◌, map, length, filter, refl, sym, ap, ◌∙◌, arith, append_assoc, append-nil, length-append}
use Rattle.std.proofs.lemmas.List.{map-append, length-map}
use Rattle.ff_rec.specs.Lines.{Rec}
use Rattle.ff_rec.specs.Weights.{weigh}
use Rattle.ff_rec.proofs.WeightLaws.{weigh-append, weigh-map}
use Rattle.ff_net.specs.declared.net.Test.{Test}
use Rattle.ff_net.specs.Levels.{meets}
use Rattle.ff_net.specs.Logs.{Event, Fed, Gave, Got, fed, given, given_to, got_from, came, came_out, IsLegal}
use Rattle.ff_plan.specs.LogLaws.{IsSound}
use Rattle.ff_plan.proofs.Totals.{total-same}
use Rattle.ff_plan.proofs.LogCounts.{answers, total-≤, given_to-total, got_from-total, got_from-length}

none-left : {A : Type 0} (xs : List A) → length xs ≡ 0 → xs ≡ []
none-left [] none = refl
none-left (x ∷ xs) none = absurd (omega (arith, none))

-- of two fronts of a list the longer goes on behind the shorter
pub longer-front : {A : Type 0} (xs ys us vs : List A) → xs ++ us ≡ ys ++ vs → length ys ≤ length xs → (more : List A) × (xs ≡ ys ++ more)
longer-front xs [] us vs is short = (xs, refl)
longer-front [] (y ∷ ys) us vs is short = absurd (omega (arith, short))
longer-front (x ∷ xs) (y ∷ ys) us vs is short =
    let less : length ys ≤ length xs = omega (arith, short) in
    let rest = longer-front xs ys us vs (cc is) less in
    (rest.0, cc (is, rest.1))

module _ (n m : ℕ) (p : Test) (send : Rec → List Rec) where
  -- what holds of a log holds of it before its newest event
  pub IsSound-older : (e : Event) (log : List Event) → IsLegal n m p log → IsSound n send (e ∷ log) → IsSound n send log
  IsSound-older (Fed t) log legal sound = record { by = sound.by }
  IsSound-older (Gave w t) log legal sound = record {
    by = λ j below.
        let extra = if w == j then t ∷ [] else [] in
        let whole = sound.by j below in
        longer-front (map send (given_to j log)) (got_from j log) (map send extra) whole.0 (sym (map-append send (given_to j log) extra) ∙ whole.1)
        (omega (arith, got_from-length n m p log legal j, length-map (given_to j log) send));
  }
  IsSound-older (Got w answer) log legal sound = record {
    by = λ j below.
        let extra = if w == j then answer ∷ [] else [] in
        let whole = sound.by j below in
        (extra ++ whole.0, whole.1 ∙ append_assoc (got_from j log) extra whole.0);
  }

  -- a worker that answered as often as it was asked answered all its tasks
  pub got_from-all : (log : List Event) → IsSound n send log → (j : ℕ) → j < n → length (got_from j log) ≡ length (given_to j log)
      → got_from j log ≡ map send (given_to j log)
  got_from-all log sound j below all =
      let whole = sound.by j below in
      let none : whole.0 ≡ [] = none-left whole.0 (omega (
        arith,
        all,
        length-map (given_to j log) send,
        ap length whole.1,
        length-append (got_from j log) whole.0,
      )) in
      sym (append-nil (got_from j log)) ∙ ap (λ more. got_from j log ++ more) (sym none) ∙ sym whole.1

  module _ (log : List Event) (legal : IsLegal n m p log) (sound : IsSound n send log) (h : List Rec → ℕ) where
    -- a worker's answers weigh no more than those for all its tasks
    worker-answers : (j : ℕ) → j < n → weigh h (got_from j log) ≤ weigh (λ t. h (send t)) (given_to j log)
    worker-answers j below =
        let whole = sound.by j below in
        omega (arith, weigh-map h send (given_to j log), ap (weigh h) whole.1, weigh-append h (got_from j log) whole.0)

    -- and as much where it answered all
    worker-all : (j : ℕ) → j < n → length (got_from j log) ≡ length (given_to j log) → weigh h (got_from j log) ≡ weigh (λ t. h (send t)) (given_to j log)
    worker-all j below all = ap (weigh h) (got_from-all log sound j below all) ∙ weigh-map h send (given_to j log)

    -- all answers weigh no more than those for all tasks
    pub answers-within : weigh h (answers log) ≤ weigh (λ t. h (send t)) (given log)
    answers-within =
        let few = total-≤ n (λ j. weigh h (got_from j log)) (λ j. weigh (λ t. h (send t)) (given_to j log)) worker-answers in
        omega (arith, few, got_from-total n m p log legal h, given_to-total n m p log legal (λ t. h (send t)))

    -- and as much where every task was answered
    pub answers-all : ((j : ℕ) → j < n → length (got_from j log) ≡ length (given_to j log)) → weigh h (answers log) ≡ weigh (λ t. h (send t)) (given log)
    answers-all all =
        let same = total-same n (λ j. weigh h (got_from j log)) (λ j. weigh (λ t. h (send t)) (given_to j log)) (λ j below. worker-all j below (all j below)) in
        omega (arith, same, got_from-total n m p log legal h, given_to-total n m p log legal (λ t. h (send t)))

-- the answers part into the tasks that came back and the results
pub came-weigh : (p : Test) (log : List Event) (h : Rec → ℕ) → weigh h (came p log) ≡ weigh h (fed log) + weigh (λ a. weigh h (filter (meets p) a)) (answers log)
came-weigh p [] h = refl
came-weigh p (Fed t ∷ log) h = omega (arith, came-weigh p log h, weigh-append h (came p log) (t ∷ []), weigh-append h (fed log) (t ∷ []))
came-weigh p (Gave w t ∷ log) h = came-weigh p log h
came-weigh p (Got w a ∷ log) h = omega (
  arith,
  came-weigh p log h,
  weigh-append h (came p log) (filter (meets p) a),
  weigh-append (λ (b : List Rec). weigh h (filter (meets p) b)) (answers log) (a ∷ []),
)

pub came_out-weigh : (p : Test) (log : List Event) (h : Rec → ℕ) → weigh h (came_out p log) ≡ weigh (λ a. weigh h (filter (λ r. not (meets p r)) a)) (answers log)
came_out-weigh p [] h = refl
came_out-weigh p (Fed t ∷ log) h = came_out-weigh p log h
came_out-weigh p (Gave w t ∷ log) h = came_out-weigh p log h
came_out-weigh p (Got w a ∷ log) h = omega (
  arith,
  came_out-weigh p log h,
  weigh-append h (came_out p log) (filter (λ r. not (meets p r)) a),
  weigh-append (λ (b : List Rec). weigh h (filter (λ r. not (meets p r)) b)) (answers log) (a ∷ []),
)
