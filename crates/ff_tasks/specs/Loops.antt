-- What a loop does: a scheduler's tasks are given to workers and answered, until none is left.
use Rattle.std.specs.Prelude.{◌≡◌, ℕ, ◌<◌, List, [], ◌∷◌, length, map, All}
use Rattle.ff_spawn.specs.Counts.{RoseBy}
use Rattle.ff_loop.specs.Events.{SchedEvent, backs, IsIdle, AreAnswered}
use Rattle.ff_loop.specs.Moves.{Move, Fed, Gave, Got, events_on, asked, answered, IsLegal, IsDone}
use Rattle.ff_loop.specs.Scheduling.{Scheduling, made_by}

-- each of these handlers answers as `f` does
abbrev pub AllAnswer : {T A H : Type 0} → (H → T → A) → (T → A) → List H → Type 0
AllAnswer answers f handlers = All (λ h. answers h ≡ f) handlers

-- no task was fed in
abbrev pub NoneFed : {T A : Type 0} → List (Move T A) → Type 0
NoneFed [] = Unit {0}
NoneFed (Fed t ∷ log) = ⊥
NoneFed (Gave w id t ∷ log) = NoneFed log
NoneFed (Got w id a ∷ log) = NoneFed log

-- each of `n` workers answered its tasks by `f`, in their order
abbrev pub IsSound : {T A : Type 0} → ℕ → (T → A) → List (Move T A) → Type 0
IsSound n f log = (j : ℕ) → j < n → answered j log ≡ map f (asked j log)

-- So many workers answered all tasks of the scheduler `before`, which is `after` then. The log tells how; its events are those that came
-- behind the ones before, and the spawner's count of work rose by at least the number of answers among them.
pub record LoopRan {T A S H : Type 0} (d : Scheduling T A S) (answers : H → T → A) (handlers : List H) (before after : S) (worked worked' : ℕ) : Type 0 where
  pub right : d.IsRight after
  pub kind : d.kind after ≡ d.kind before
  pub taken : d.taken after ≡ d.taken before
  pub idle : IsIdle (made_by d after) (d.events after)
  pub log : List (Move T A)
  pub unfed : NoneFed log
  pub events : d.events after ≡ events_on (d.events before) log
  pub legal : IsLegal (length handlers) (d.made (d.kind before)) (d.events before) log
  pub done : IsDone (length handlers) (d.made (d.kind before)) (d.events before) log
  pub sound : (f : T → A) → AllAnswer answers f handlers → IsSound (length handlers) f log
  pub work : RoseBy (length (backs (events_on [] log))) worked worked'

-- where all answers were those of `f` before, and each handler answers as `f` does, all are those of `f` after
abbrev pub KeepsAnswers : {T A S H : Type 0} → Scheduling T A S → (H → T → A) → List H → S → S → Type 0
KeepsAnswers {T} {A} d answers handlers before after =
    (f : T → A) → AllAnswer answers f handlers → AreAnswered f (d.events before) → AreAnswered f (d.events after)
