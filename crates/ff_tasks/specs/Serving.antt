-- How the master gives out tasks and takes answers, over the seats of its workers.
use Rattle.std.specs.Prelude.{◌≡◌, ℕ, ◌-◌, ◌<◌, ◌≤◌, List, [], ◌∷◌, ◌++◌, length, map, Option, None, Some}
use Rattle.ff_rec.specs.Streams.{items, at}
use Rattle.ff_loop.specs.Events.{IsIdle}
use Rattle.ff_loop.specs.Moves.{Move, Fed, Gave, Got, events_on, asked, answered, numbers_to, numbers_from, IsLegal, IsDone}
use Rattle.ff_loop.specs.Masters.{MasterState, IsKept}
use Rattle.ff_loop.specs.Scheduling.{Scheduling, made_by}
use Rattle.ff_tasks.specs.Jobs.{Begins}
use Rattle.ff_tasks.specs.Loops.{NoneFed}
use Rattle.ff_tasks.specs.Seats.{SeatState, AreOpen}

-- what worker `j` was given so far, and what it answered
abbrev pub given_at : {T A : Type 0} → ℕ → List (SeatState T A) → List T
given_at j ss = items (at (map (λ s. s.put) ss) j)

abbrev pub came_at : {T A : Type 0} → ℕ → List (SeatState T A) → List A
came_at j ss = items (at (map (λ s. s.got) ss) j)

-- moves of worker `w` alone
abbrev pub AreOf : {T A : Type 0} → ℕ → List (Move T A) → Type 0
AreOf w [] = Unit {0}
AreOf w (Fed t ∷ moves) = ⊥
AreOf w (Gave v id t ∷ moves) = (v ≡ w) × AreOf w moves
AreOf w (Got v id a ∷ moves) = (v ≡ w) × AreOf w moves

-- the master made these moves, the last one first
pub record Works {T A S : Type 0} (d : Scheduling T A S) (m : MasterState T A S) (moves : List (Move T A)) (m' : MasterState T A S) : Type 0 where
  pub kept : IsKept d m'
  pub log : m'.log ≡ moves ++ m.log
  pub start : m'.start ≡ m.start
  pub taken : d.taken m'.scheduler ≡ d.taken m.scheduler
  pub workers : length m'.held ≡ length m.held
  pub unfed : NoneFed moves

-- it made moves of worker `w`, and these tasks and answers went over that worker's rings
pub record ServesAt {T A S : Type 0} (d : Scheduling T A S) (w : ℕ) (m : MasterState T A S) (s : SeatState T A) (m' : MasterState T A S) (s' : SeatState T A) : Type 0 where
  pub moves : List (Move T A)
  pub works : Works d m moves m'
  pub of : AreOf w moves
  pub put : items s'.put ≡ items s.put ++ asked w moves
  pub got : items s'.got ≡ items s.got ++ answered w moves

-- it made moves, and these tasks and answers went over its workers' rings
pub record Serves {T A S : Type 0} (d : Scheduling T A S) (m : MasterState T A S) (ss : List (SeatState T A)) (m' : MasterState T A S) (ss' : List (SeatState T A)) : Type 0 where
  pub moves : List (Move T A)
  pub works : Works d m moves m'
  pub put : (j : ℕ) → j < length m.held → given_at j ss' ≡ given_at j ss ++ asked j moves
  pub got : (j : ℕ) → j < length m.held → came_at j ss' ≡ came_at j ss ++ answered j moves

-- there is an open seat for each of the master's workers, 64 at most
pub record IsServed {T A S : Type 0} (d : Scheduling T A S) (m : MasterState T A S) (ss : List (SeatState T A)) : Type 0 where
  pub kept : IsKept d m
  pub count : length ss ≡ length m.held
  pub few : length ss ≤ 64
  pub untold : AreOpen ss

-- how many tasks worker `j` has
abbrev pub owed : {T A S : Type 0} → ℕ → MasterState T A S → ℕ
owed j m = length (asked j m.log) - length (answered j m.log)

-- of `n` workers the one with the fewest tasks, and the first of these, if it has fewer than `cap`
abbrev pub IsFreest : {T A S : Type 0} → ℕ → ℕ → MasterState T A S → Option ℕ → Type 0
IsFreest cap n m None = (j : ℕ) → j < n → cap ≤ owed j m
IsFreest cap n m (Some w) =
    (w < n) × (owed w m < cap) × ((j : ℕ) → j < n → owed w m ≤ owed j m) × ((j : ℕ) → j < w → owed w m < owed j m)

-- all tasks of the scheduler `before`, which is `after` then, were given to the workers at these seats, and as many answers came
pub record WorksOff {T A S : Type 0} (d : Scheduling T A S) (before after : S) (ss ss' : List (SeatState T A)) : Type 0 where
  pub right : d.IsRight after
  pub kind : d.kind after ≡ d.kind before
  pub taken : d.taken after ≡ d.taken before
  pub idle : IsIdle (made_by d after) (d.events after)
  pub log : List (Move T A)
  pub unfed : NoneFed log
  pub events : d.events after ≡ events_on (d.events before) log
  pub legal : IsLegal (length ss) (d.made (d.kind before)) (d.events before) log
  pub done : IsDone (length ss) (d.made (d.kind before)) (d.events before) log
  -- an answer belongs to the oldest task of its worker
  pub queues : (j : ℕ) → j < length ss → Begins (numbers_from j log) (numbers_to j log)
  pub put : (j : ℕ) → j < length ss → given_at j ss' ≡ given_at j ss ++ asked j log
  pub got : (j : ℕ) → j < length ss → came_at j ss' ≡ came_at j ss ++ answered j log
