-- The tasks of a wrap on their rounds between its list of them and its workers, as the log of a network's master tells it.
use Rattle.std.specs.Prelude.{◌≡◌, ℕ, ◌<◌, ◌≤◌, List, [], ◌∷◌, ◌++◌, length, Option, None, Some}
use Rattle.ff_rec.specs.Lines.{Rec}
use Rattle.ff_node.specs.Sends.{Sent}
use Rattle.ff_net.specs.declared.net.Test.{Test}
use Rattle.ff_net.specs.Logs.{Event, Within, given, came, came_out, made, IsLegal}
use Rattle.ff_net.specs.Logs.{Fed as EventFed, Gave as EventGave, Got as EventGot}
use Rattle.ff_loop.specs.Moves.{Move, Fed, Gave, Got}
use Rattle.ff_loop.specs.Masters.{MasterState, IsKept}
use Rattle.ff_loop.specs.Worklists.{WorkState, work_does}

-- the moves of a wrap's master, without the numbers of tasks
abbrev pub wrap_log : List (Move Rec Sent) → List Event
wrap_log [] = []
wrap_log (Fed t ∷ log) = EventFed t ∷ wrap_log log
wrap_log (Gave w id t ∷ log) = EventGave w t ∷ wrap_log log
wrap_log (Got w id a ∷ log) = EventGot w a.sends ∷ wrap_log log

-- a master over the tasks of a wrap
abbrev pub RoundState : Type 0
RoundState = MasterState Rec Sent WorkState

-- the test and the limit of the wrap, how many workers it has, and what happened
abbrev pub test_of : RoundState → Test
test_of s = s.start.test

abbrev pub limit_of : RoundState → ℕ
limit_of s = s.start.limit

abbrev pub workers_of : RoundState → ℕ
workers_of s = length s.held

abbrev pub log_of : RoundState → List Event
log_of s = wrap_log s.log

-- the results that were taken out, and those that are held
abbrev pub taken_of : RoundState → List Rec
taken_of s = s.scheduler.taken

abbrev pub results_of : RoundState → List Rec
results_of s = s.scheduler.results

-- what is held is as the log says, which began with no task
pub record IsRound (s : RoundState) : Type 0 where
  pub kept : IsKept work_does s
  pub none_before : s.start.events ≡ []

-- by its log it could do what it did, and while no more tasks came than the limit allows, the results that were taken out and those that are
-- held are all results, in their order
pub record IsLogged (s : RoundState) : Type 0 where
  pub legal : IsLegal (workers_of s) (limit_of s) (test_of s) (log_of s)
  -- each task that was given came
  pub given_came : Within (given (log_of s)) (made (limit_of s) (test_of s) (log_of s))
  pub results : length (came (test_of s) (log_of s)) ≤ limit_of s → taken_of s ++ results_of s ≡ came_out (test_of s) (log_of s)
  -- past the limit no result is held
  pub dropped : limit_of s < length (came (test_of s) (log_of s)) → results_of s ≡ []

-- the log is this, of the same wrap with the same workers, and these results were taken out
pub record GoesRound (s s' : RoundState) (events : List Event) (out : List Rec) : Type 0 where
  pub round : IsRound s'
  pub logged : IsLogged s'
  pub log : log_of s' ≡ events
  pub taken : taken_of s' ≡ out
  pub test : test_of s' ≡ test_of s
  pub limit : limit_of s' ≡ limit_of s
  pub workers : workers_of s' ≡ workers_of s

-- a wrap of `n` workers with this test and at most `m` tasks, of which none came yet
pub record IsOpened (p : Test) (m n : ℕ) (s : RoundState) : Type 0 where
  pub round : IsRound s
  pub logged : IsLogged s
  pub log : log_of s ≡ []
  pub taken : taken_of s ≡ []
  pub test : test_of s ≡ p
  pub limit : limit_of s ≡ m
  pub workers : workers_of s ≡ n

-- no task may be given
abbrev pub NoneToGive : RoundState → Type 0
NoneToGive s = Within (made (limit_of s) (test_of s) (log_of s)) (given (log_of s))

-- a task is given to worker `w`, or none may be given
abbrev pub GivesTask : ℕ → RoundState → Option Rec → RoundState → Type 0
GivesTask w s None s' = NoneToGive s × GoesRound s s' (log_of s) (taken_of s)
GivesTask w s (Some t) s' = GoesRound s s' (EventGave w t ∷ log_of s) (taken_of s)

-- the first result that is held is taken out, or none is held
abbrev pub TakesOut : RoundState → Option Rec → RoundState → Type 0
TakesOut s None s' = (results_of s ≡ []) × (s' ≡ s)
TakesOut s (Some x) s' = (results_of s ≡ x ∷ results_of s') × GoesRound s s' (log_of s) (taken_of s ++ x ∷ [])
