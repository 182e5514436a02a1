-- What a master did, between its scheduler and its workers: the log, with the newest move first.
use Rattle.std.specs.Prelude.{◌≡◌, ℕ, ◌<◌, ◌==◌, if◌then◌else◌, List, [], ◌∷◌, ◌++◌, length}
use Rattle.ff_rec.specs.Weights.{Same}
use Rattle.ff_loop.specs.Events.{SchedEvent, Offered, Given, Back, given, IsReady}

-- a task was fed in; one was given to worker `w`, with a number; or the answer to the task of a number was got from worker `w`
pub data Move (T A : Type 0) : Type 0 where
  Fed : (t : T) → Move T A
  Gave : (w id : ℕ) (t : T) → Move T A
  Got : (w id : ℕ) (a : A) → Move T A

-- the events of the scheduler, those from before the log among them
abbrev pub events_on : {T A : Type 0} → List (SchedEvent T A) → List (Move T A) → List (SchedEvent T A)
events_on before [] = before
events_on before (Fed t ∷ log) = Offered t ∷ events_on before log
events_on before (Gave w id t ∷ log) = Given id t ∷ events_on before log
events_on before (Got w id a ∷ log) = Back id a ∷ events_on before log

-- the tasks that were given to worker `j`
abbrev pub asked : {T A : Type 0} → ℕ → List (Move T A) → List T
asked j [] = []
asked j (Fed t ∷ log) = asked j log
asked j (Gave w id t ∷ log) = asked j log ++ (if w == j then t ∷ [] else [])
asked j (Got w id a ∷ log) = asked j log

-- the answers that were got from worker `j`
abbrev pub answered : {T A : Type 0} → ℕ → List (Move T A) → List A
answered j [] = []
answered j (Fed t ∷ log) = answered j log
answered j (Gave w id t ∷ log) = answered j log
answered j (Got w id a ∷ log) = answered j log ++ (if w == j then a ∷ [] else [])

-- the numbers of the tasks that were given to worker `j`
abbrev pub numbers_to : {T A : Type 0} → ℕ → List (Move T A) → List ℕ
numbers_to j [] = []
numbers_to j (Fed t ∷ log) = numbers_to j log
numbers_to j (Gave w id t ∷ log) = numbers_to j log ++ (if w == j then id ∷ [] else [])
numbers_to j (Got w id a ∷ log) = numbers_to j log

-- the numbers of the tasks that worker `j` answered
abbrev pub numbers_from : {T A : Type 0} → ℕ → List (Move T A) → List ℕ
numbers_from j [] = []
numbers_from j (Fed t ∷ log) = numbers_from j log
numbers_from j (Gave w id t ∷ log) = numbers_from j log
numbers_from j (Got w id a ∷ log) = numbers_from j log ++ (if w == j then id ∷ [] else [])

-- each move could be made when it was: a ready task was given to one of `n` workers, and an answer was got from one that owed it. `made` are
-- the tasks that events have fed in or spawned
abbrev pub IsLegal : {T A : Type 0} → ℕ → (List (SchedEvent T A) → List T) → List (SchedEvent T A) → List (Move T A) → Type 0
IsLegal n made before [] = Unit {0}
IsLegal n made before (Fed t ∷ log) = IsLegal n made before log
IsLegal n made before (Gave w id t ∷ log) =
    (w < n) × IsReady (made (events_on before log)) t (events_on before log) × IsLegal n made before log
IsLegal n made before (Got w id a ∷ log) = (w < n) × (length (answered w log) < length (asked w log)) × IsLegal n made before log

-- every task was given, and every answer got
pub record IsDone {T A : Type 0} (n : ℕ) (made : List (SchedEvent T A) → List T) (before : List (SchedEvent T A)) (log : List (Move T A)) : Type 0 where
  pub all_given : Same (given (events_on before log)) (made (events_on before log))
  pub all_got : (j : ℕ) → j < n → length (answered j log) ≡ length (asked j log)
