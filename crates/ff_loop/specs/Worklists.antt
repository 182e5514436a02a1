-- The tasks of a wrap: what is seen of the list of them, and what it holds by its events.
use Rattle.std.specs.Prelude.{◌≡◌, ℕ, ◌+◌, ◌<◌, nat_le, if◌then◌else◌, Bool, true, false, not, List, [], ◌∷◌, ◌++◌, length, Option, None, Some}
use Rattle.std.specs.List.{AllByRecursion, filter}
use Rattle.ff_rec.specs.Lines.{Rec}
use Rattle.ff_node.specs.Sends.{Sent}
use Rattle.ff_net.specs.declared.net.Test.{Test}
use Rattle.ff_net.specs.Levels.{meets}
use Rattle.ff_net.specs.Logs.{Within}
use Rattle.ff_loop.specs.Events.{SchedEvent, Offered, Given, Back, given, numbers, backs}
use Rattle.ff_loop.specs.Masters.{MasterState}
use Rattle.ff_loop.specs.Scheduling.{Scheduling}

-- what happened to the tasks of a wrap: a task is a record, and an answer is what a worker sent for it
abbrev pub WorkEvent : Type 0
WorkEvent = SchedEvent Rec Sent

-- the tasks that came: those that were fed in, and what of the answers meets the test
abbrev pub came : Test → List WorkEvent → List Rec
came p [] = []
came p (Offered t ∷ log) = came p log ++ t ∷ []
came p (Given id t ∷ log) = came p log
came p (Back id a ∷ log) = came p log ++ filter (meets p) a.sends

-- the results: what of the answers doesn't meet the test
abbrev pub came_out : Test → List WorkEvent → List Rec
came_out p [] = []
came_out p (Offered t ∷ log) = came_out p log
came_out p (Given id t ∷ log) = came_out p log
came_out p (Back id a ∷ log) = came_out p log ++ filter (λ r. not (meets p r)) a.sends

-- the tasks that may be given: those that came, as long as they are at most `m`, and after that no more than were given
abbrev pub work_made : Test → ℕ → List WorkEvent → List Rec
work_made p m log = if nat_le (length (came p log)) m then came p log else given log

pub record WorkState : Type 0 where
  -- which records go round, and how many tasks there may be
  pub test : Test
  pub limit : ℕ
  -- the tasks that wait, how many more there may be, and the results that are held
  pub next : List Rec
  pub room : ℕ
  pub results : List Rec
  -- the number of the next task that is given, and how many are out
  pub next_id : ℕ
  pub out : ℕ
  -- whether more tasks came than there may be
  pub over : Bool
  pub events : List WorkEvent
  -- the results that were taken out
  pub taken : List Rec

-- no task came yet
abbrev pub opened_work : Test → ℕ → WorkState
opened_work p m =
    record { test = p; limit = m; next = []; room = m; results = []; next_id = 0; out = 0; over = false; events = []; taken = [] }

-- more tasks came than the limit allows
abbrev pub IsOverLimit : WorkState → Type 0
IsOverLimit w = w.limit < length (came w.test w.events)

-- all that came was given or waits, and all results were taken out or are held, in their order
pub record IsWithin (w : WorkState) : Type 0 where
  pub tasks : given w.events ++ w.next ≡ came w.test w.events
  pub room : w.room + length (came w.test w.events) ≡ w.limit
  pub results : w.taken ++ w.results ≡ came_out w.test w.events

-- past the limit it has dropped what wasn't given or taken out
pub record IsPast (w : WorkState) : Type 0 where
  pub over : IsOverLimit w
  pub tasks : w.next ≡ []
  pub room : w.room ≡ 0
  pub results : w.results ≡ []

-- which of the two it is
abbrev pub Holds : Bool → WorkState → Type 0
Holds false w = IsWithin w
Holds true w = IsPast w

-- what it holds is as its events say
pub record IsRight (w : WorkState) : Type 0 where
  pub numbers_below : AllByRecursion (λ n. n < w.next_id) (numbers w.events)
  pub next_is : w.next_id ≡ length (numbers w.events)
  pub balance : Within (backs w.events) (numbers w.events)
  pub out_is : w.out + length (backs w.events) ≡ length (numbers w.events)
  pub holds : Holds w.over w

-- the list of tasks of a wrap as a scheduler
abbrev pub work_does : Scheduling Rec Sent WorkState
work_does = record {
  Kind = Test × ℕ;
  kind = λ w. (w.test, w.limit);
  made = λ k log. work_made k.0 k.1 log;
  events = λ w. w.events;
  Taken = List Rec;
  taken = λ w. w.taken;
  IsRight = IsRight;
}

-- the first result that is held is taken out, or none is held
abbrev pub TakesResult : WorkState → Option Rec → WorkState → Type 0
TakesResult w None w' = (w.results ≡ []) × (w' ≡ w)
TakesResult w (Some x) w' = (w.results ≡ x ∷ w'.results) × (w' ≡ record w { results = w'.results; taken = w.taken ++ x ∷ [] })

-- that is done by a master over such a list, of which nothing else changes
abbrev pub TakesHeld : MasterState Rec Sent WorkState → Option Rec → MasterState Rec Sent WorkState → Type 0
TakesHeld m x m' = TakesResult m.scheduler x m'.scheduler × (m' ≡ record m { scheduler = m'.scheduler })
