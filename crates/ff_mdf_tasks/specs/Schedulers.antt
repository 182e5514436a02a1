-- The scheduler of a program: what is seen of it, and what it holds by its events.
use Rattle.std.specs.Prelude.{◌≡◌, ℕ, ◌+◌, ◌≤◌, true, if◌then◌else◌, List, [], ◌∷◌, map, length, take, Option, None}
use Rattle.ff_rec.specs.Weights.{Same}
use Rattle.ff_net.specs.Logs.{Within}
use Rattle.ff_loop.specs.Events.{Offered, Given, Back, given, numbers, backs}
use Rattle.ff_loop.specs.Scheduling.{Scheduling}
use Rattle.ff_prog.specs.Writers.{out_names}
use Rattle.ff_prog.specs.declared.statement.Statement.{Statement}
use Rattle.ff_mdf.specs.Orders.{back_of, by_backs}
use Rattle.ff_mdf.specs.Stores.{Entry, valued}
use Rattle.ff_mdf.specs.declared.value.MdfAnswer.{MdfAnswer}
use Rattle.ff_mdf_tasks.specs.declared.task.MdfTask.{MdfTask}
use Rattle.ff_mdf_tasks.specs.declared.readers.Readers.{Readers}
use Rattle.ff_mdf_tasks.specs.ByLinks.{answer_in}
use Rattle.ff_mdf_tasks.specs.Queues.{QueueState, occurs}
use Rattle.ff_mdf_tasks.specs.Sources.{AreReaders}
use Rattle.ff_mdf_tasks.specs.Tasks.{MdfEvent, came_back, is_ready, task_at, program_made}

pub record MdfState : Type 0 where
  pub program : List Statement
  pub readers : Readers
  -- the answer of each statement, where it is back
  pub answers : List (Option MdfAnswer)
  -- the statements that are or were ready, in the order in which they became so; how many of these were given, and how many are out
  pub queue : QueueState
  pub next : ℕ
  pub out : ℕ
  pub events : List MdfEvent

-- each task was ready when it was given, with the values that had come back, and each came back once
abbrev pub IsFit : List Statement → List MdfEvent → Type 0
IsFit ss [] = Unit {0}
IsFit ss (Offered t ∷ log) = IsFit ss log
IsFit ss (Given id t ∷ log) = (is_ready ss (came_back log) id ≡ true) × (t ≡ task_at ss (came_back log) id) × IsFit ss log
IsFit ss (Back id a ∷ log) = (back_of (came_back log) id ≡ None) × IsFit ss log

-- what it holds is as its events say
pub record IsRight (s : MdfState) : Type 0 where
  pub readers : AreReaders s.program s.readers
  pub many : length s.answers ≡ length s.program
  pub answered : (k : ℕ) → answer_in s.answers k ≡ back_of (came_back s.events) k
  pub fit : IsFit s.program s.events
  pub size : s.queue.size ≡ length s.program
  pub queued : (k : ℕ) → occurs k s.queue.order ≡ (if is_ready s.program (came_back s.events) k then 1 else 0)
  pub within : s.next ≤ length s.queue.order
  pub gave : given s.events ≡ map (task_at s.program (came_back s.events)) (take s.next s.queue.order)
  pub numbered : Same (numbers s.events) (take s.next s.queue.order)
  pub balance : Within (backs s.events) (numbers s.events)
  pub counted : s.out + length (backs s.events) ≡ s.next

-- nothing happened yet
pub record IsOpened (ss : List Statement) (s : MdfState) : Type 0 where
  pub program : s.program ≡ ss
  pub events : s.events ≡ []
  pub right : IsRight s

-- the names that the program puts out, with what came back for them from their latest writers
abbrev pub store_so_far : MdfState → List Entry
store_so_far s = map (valued (by_backs s.program (came_back s.events) (length s.program))) (out_names s.program)

-- as a scheduler
abbrev pub mdf_does : Scheduling MdfTask MdfAnswer MdfState
mdf_does = record {
  Kind = List Statement;
  kind = λ s. s.program;
  made = λ ss log. program_made ss log;
  events = λ s. s.events;
  Taken = Unit {0};
  taken = λ s. tt;
  IsRight = IsRight;
}
