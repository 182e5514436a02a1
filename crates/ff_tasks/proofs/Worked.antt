-- As many answers are back as came from all workers together.
use Rattle.std.proofs.Common.{◌≡◌, ℕ, zero, suc, ◌+◌, ◌<◌, ◌==◌, if◌then◌else◌, Bool, List, [], ◌∷◌, ◌++◌, length, refl, sym, ap, ◌∙◌, arith, eq-eqb, length-append}
use Rattle.std.proofs.lemmas.Bool.{cond-true, cond-false, ne_eqb}
use Rattle.std.proofs.lemmas.List.Sums.{sum_by-cons}
use Rattle.std.specs.List.{sum_by}
use Rattle.ff_rec.specs.Streams.{items}
use Rattle.ff_loop.specs.Events.{SchedEvent, backs}
use Rattle.ff_loop.specs.Moves.{Move, Fed, Gave, Got, events_on, answered, IsLegal}
use Rattle.ff_tasks.specs.Crews.{came}
use Rattle.ff_tasks.specs.Seats.{SeatState}
use Rattle.ff_tasks.specs.Serving.{came_at}

-- what `g` gives for the numbers below `n`, added up
abbrev total : ℕ → (ℕ → ℕ) → ℕ
total zero g = 0
total (suc n) g = g 0 + total n (λ j. g (suc j))

total-same : (n : ℕ) (g g' : ℕ → ℕ) → ((j : ℕ) → j < n → g' j ≡ g j) → total n g' ≡ total n g
total-same zero g g' same = refl
total-same (suc n) g g' same =
    omega (arith, same 0 (omega arith), total-same n (λ j. g (suc j)) (λ j. g' (suc j)) (λ j below. same (suc j) (omega (arith, below))))

-- it is one more where one of them gives one more
total-more : (n w : ℕ) (g g' : ℕ → ℕ) → w < n → g' w ≡ suc (g w) → ((j : ℕ) → (w ≡ j → ⊥) → g' j ≡ g j) → total n g' ≡ suc (total n g)
total-more zero w g g' below here others = absurd (omega arith)
total-more (suc n) zero g g' below here others =
    omega (arith, here, total-same n (λ j. g (suc j)) (λ j. g' (suc j)) (λ j within. others (suc j) (λ same. absurd (omega (arith, same)))))
total-more (suc n) (suc w) g g' below here others =
    omega (
      arith,
      others 0 (λ same. absurd (omega (arith, same))),
      total-more n w (λ j. g (suc j)) (λ j. g' (suc j)) (omega (arith, below)) here (λ j other. others (suc j) (λ same. other (omega (arith, same)))),
    )

module _ {T A : Type 0} where
  -- the answers that are back were got from one worker each
  total-answered : (n : ℕ) (made : List (SchedEvent T A) → List T) (before : List (SchedEvent T A)) (log : List (Move T A)) → IsLegal n made before log
      → total n (λ j. length (answered j log)) ≡ length (backs (events_on [] log))
  total-answered n made before [] legal = total-none n
    where
      total-none : (n : ℕ) → total n (λ _. 0) ≡ 0
      total-none zero = refl
      total-none (suc n) = omega (arith, total-none n)
  total-answered n made before (Fed t ∷ log) legal = total-answered n made before log legal
  total-answered n made before (Gave w id t ∷ log) legal = total-answered n made before log legal.2
  total-answered n made before (Got w id a ∷ log) legal =
      total-more n w (λ j. length (answered j log)) (λ j. length (answered j (Got w id a ∷ log))) legal.0
      (ap (λ l. length (answered w log ++ l)) (cond-true (w == w) (a ∷ []) [] (eq-eqb w w refl)) ∙ omega (arith, length-append (answered w log) (a ∷ [])))
      (λ j other. ap (λ l. length (answered j log ++ l)) (cond-false (w == j) (a ∷ []) [] (ne_eqb w j other)) ∙ omega (arith, length-append (answered j log) []))
      ∙ ap suc (total-answered n made before log legal.2)

  -- what came from each, added up
  total-came : (ss : List (SeatState T A)) → total (length ss) (λ j. length (came_at j ss)) ≡ came ss
  total-came [] = refl
  total-came (s ∷ ss) = omega (arith, total-came ss, sum_by-cons (λ (s : SeatState T A). length (items s.got)) s ss)

  pub came-backs : (ss : List (SeatState T A)) (made : List (SchedEvent T A) → List T) (before : List (SchedEvent T A)) (log : List (Move T A)) → IsLegal (length ss) made before log
      → ((j : ℕ) → j < length ss → came_at j ss ≡ answered j log) → came ss ≡ length (backs (events_on [] log))
  came-backs ss made before log legal each =
      sym (total-came ss) ∙ total-same (length ss) (λ j. length (answered j log)) (λ j. length (came_at j ss)) (λ j below. ap length (each j below))
      ∙ total-answered (length ss) made before log legal
