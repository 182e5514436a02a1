-- What is seen of a master, and what its calls do.
use Rattle.std.specs.Prelude.{◌≡◌, ℕ, ◌<◌, List, [], ◌∷◌, ◌++◌, length, slice_index_or, replicate, Option, None, Some}
use Rattle.std.specs.List.{concat}
use Rattle.ff_rec.specs.Weights.{Same}
use Rattle.ff_loop.specs.Events.{numbers, backs, NoneReady}
use Rattle.ff_loop.specs.Moves.{Move, Gave, events_on, numbers_to, numbers_from, IsLegal, IsDone}
use Rattle.ff_loop.specs.Scheduling.{Scheduling, made_by}

pub record MasterState (T A S : Type 0) : Type 0 where
  -- the scheduler, and what it was when the master took it
  pub scheduler : S
  pub start : S
  -- for each worker the numbers that were given to it and aren't back, the oldest first
  pub held : List (List ℕ)
  pub log : List (Move T A)

-- a master of `n` workers that did nothing yet
abbrev pub opened_master : {T A S : Type 0} → S → ℕ → MasterState T A S
opened_master s n = record { scheduler = s; start = s; held = replicate n []; log = [] }

-- what a master holds is as its log says
pub record IsKept {T A S : Type 0} (d : Scheduling T A S) (m : MasterState T A S) : Type 0 where
  pub right : d.IsRight m.scheduler
  pub kind : d.kind m.scheduler ≡ d.kind m.start
  -- the log tells all that happened to the scheduler
  pub events : d.events m.scheduler ≡ events_on (d.events m.start) m.log
  -- a worker answers its tasks in their order
  pub queues : (j : ℕ) → j < length m.held → numbers_to j m.log ≡ numbers_from j m.log ++ slice_index_or m.held j []
  -- what is out is what workers hold
  pub balance : Same (backs (d.events m.scheduler) ++ concat m.held) (numbers (d.events m.scheduler))
  pub legal : IsLegal (length m.held) (d.made (d.kind m.start)) (d.events m.start) m.log

-- all that there was to do for this master is done
abbrev pub HasDoneAll : {T A S : Type 0} → Scheduling T A S → MasterState T A S → Type 0
HasDoneAll d m = IsDone (length m.held) (d.made (d.kind m.start)) (d.events m.start) m.log

-- a move was made, and everything else stayed
pub record Moves {T A S : Type 0} (d : Scheduling T A S) (m m' : MasterState T A S) (move : Move T A) : Type 0 where
  pub kept : IsKept d m'
  pub log : m'.log ≡ move ∷ m.log
  pub start : m'.start ≡ m.start
  pub taken : d.taken m'.scheduler ≡ d.taken m.scheduler
  pub workers : length m'.held ≡ length m.held

-- nothing happened that can be seen
pub record Rests {T A S : Type 0} (d : Scheduling T A S) (m m' : MasterState T A S) : Type 0 where
  pub kept : IsKept d m'
  pub log : m'.log ≡ m.log
  pub start : m'.start ≡ m.start
  pub taken : d.taken m'.scheduler ≡ d.taken m.scheduler
  pub workers : length m'.held ≡ length m.held

-- a task was given to worker `w`, or none is ready
abbrev pub Gives : {T A S : Type 0} → Scheduling T A S → ℕ → MasterState T A S → Option T → MasterState T A S → Type 0
Gives d w m None m' = NoneReady (made_by d m.scheduler) (d.events m.scheduler) × Rests d m m'
Gives d w m (Some t) m' = (id : ℕ) × Moves d m m' (Gave w id t)
