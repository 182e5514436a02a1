-- What a scheduler is: what is seen of it, and what its calls do.
use Rattle.std.specs.Prelude.{◌≡◌, ℕ, List, ◌∷◌, Option, None, Some}
use Rattle.ff_net.specs.Logs.{Within}
use Rattle.ff_loop.specs.Events.{SchedEvent, Given, given, numbers, backs, IsReady, NoneReady, IsNew}

-- what is seen of a scheduler `S` of tasks `T` and answers `A`
pub record Scheduling (T A S : Type 0) : Type 1 where
  -- what it was made with
  pub Kind : Type 0
  pub kind : S → Kind
  -- the tasks that events have fed in or spawned and that weren't dropped
  pub made : Kind → List (SchedEvent T A) → List T
  -- what happened to it
  pub events : S → List (SchedEvent T A)
  -- what was taken out of it, which the calls of a scheduler leave as it is
  pub Taken : Type 0
  pub taken : S → Taken
  -- what it holds is as its events say
  pub IsRight : S → Type 0

-- the tasks of a scheduler: those that were fed in or spawned and weren't dropped
abbrev pub made_by : {T A S : Type 0} → Scheduling T A S → S → List T
made_by d s = d.made (d.kind s) (d.events s)

-- after a call it is right still, made with the same, nothing was taken out, and these are its events
pub record Goes {T A S : Type 0} (d : Scheduling T A S) (s s' : S) (log : List (SchedEvent T A)) : Type 0 where
  pub right : d.IsRight s'
  pub kind : d.kind s' ≡ d.kind s
  pub events : d.events s' ≡ log
  pub taken : d.taken s' ≡ d.taken s

-- a ready task is given with a new number, or none is ready
abbrev pub Nexts : {T A S : Type 0} → Scheduling T A S → S → Option (ℕ × T) → S → Type 0
Nexts d s None s' = NoneReady (made_by d s) (d.events s) × Goes d s s' (d.events s)
Nexts d s (Some x) s' = IsReady (made_by d s) x.1 (d.events s) × IsNew x.0 (d.events s) × Goes d s s' (Given x.0 x.1 ∷ d.events s)

-- the laws of a scheduler
pub record IsScheduling {T A S : Type 0} (d : Scheduling T A S) : Type 0 where
  -- a task that was given is never dropped
  pub keeps_given : (s : S) → d.IsRight s → Within (given (d.events s)) (made_by d s)
  -- a number comes back once, and only where it was given
  pub keeps_numbers : (s : S) → d.IsRight s → Within (backs (d.events s)) (numbers (d.events s))
