-- What happened to a scheduler: tasks were fed in, tasks were given out by numbers, and answers came back by these numbers. The newest
-- event stands first.
use Rattle.std.specs.Prelude.{◌≡◌, ℕ, ◌⊎◌, List, [], ◌∷◌, ◌++◌}
use Rattle.std.specs.List.{AllByRecursion}
use Rattle.ff_net.specs.Logs.{Within}

-- a task was fed in, one was given with a number, or an answer came back for the task of a number
pub data SchedEvent (T A : Type 0) : Type 0 where
  Offered : (t : T) → SchedEvent T A
  Given : (id : ℕ) (t : T) → SchedEvent T A
  Back : (id : ℕ) (a : A) → SchedEvent T A

-- the tasks that were given, in their order
abbrev pub given : {T A : Type 0} → List (SchedEvent T A) → List T
given [] = []
given (Offered t ∷ log) = given log
given (Given id t ∷ log) = given log ++ t ∷ []
given (Back id a ∷ log) = given log

-- the numbers that were given, the newest first
abbrev pub numbers : {T A : Type 0} → List (SchedEvent T A) → List ℕ
numbers [] = []
numbers (Offered t ∷ log) = numbers log
numbers (Given id t ∷ log) = id ∷ numbers log
numbers (Back id a ∷ log) = numbers log

-- the numbers that are back, the newest first
abbrev pub backs : {T A : Type 0} → List (SchedEvent T A) → List ℕ
backs [] = []
backs (Offered t ∷ log) = backs log
backs (Given id t ∷ log) = backs log
backs (Back id a ∷ log) = id ∷ backs log

-- a task that is held more often than it was given; `made` are the tasks that are held
abbrev pub IsReady : {T A : Type 0} → List T → T → List (SchedEvent T A) → Type 0
IsReady made t log = Within (t ∷ given log) made

-- each task was given as often as it is held
abbrev pub NoneReady : {T A : Type 0} → List T → List (SchedEvent T A) → Type 0
NoneReady made log = Within made (given log)

-- a number that was given and isn't back
abbrev pub IsOut : {T A : Type 0} → ℕ → List (SchedEvent T A) → Type 0
IsOut id log = Within (id ∷ backs log) (numbers log)

-- each number that was given is back
abbrev pub NoneOut : {T A : Type 0} → List (SchedEvent T A) → Type 0
NoneOut log = Within (numbers log) (backs log)

-- a number that wasn't given
abbrev pub IsNew : {T A : Type 0} → ℕ → List (SchedEvent T A) → Type 0
IsNew id log = AllByRecursion (λ n. ¬ (n ≡ id)) (numbers log)

-- nothing is left to be given, and nothing is out
abbrev pub IsIdle : {T A : Type 0} → List T → List (SchedEvent T A) → Type 0
IsIdle made log = NoneReady made log × NoneOut log

-- a task was given with this number
abbrev pub HasGiven : {T A : Type 0} → ℕ → T → List (SchedEvent T A) → Type 0
HasGiven id t [] = ⊥
HasGiven id t (Offered u ∷ log) = HasGiven id t log
HasGiven id t (Given i u ∷ log) = ((i ≡ id) × (u ≡ t)) ⊎ HasGiven id t log
HasGiven id t (Back i a ∷ log) = HasGiven id t log

-- each answer that came back is what `f` gives for the task that had been given with its number
abbrev pub AreAnswered : {T A : Type 0} → (T → A) → List (SchedEvent T A) → Type 0
AreAnswered f [] = Unit {0}
AreAnswered f (Offered u ∷ log) = AreAnswered f log
AreAnswered f (Given i u ∷ log) = AreAnswered f log
AreAnswered {T} f (Back i a ∷ log) = ((t : T) × HasGiven i t log × (a ≡ f t)) × AreAnswered f log
