-- The tasks of a program, as they become ready, and what is answered to them.
use Rattle.std.specs.Prelude.{ℕ, zero, suc, Bool, true, ◌&&◌, if◌then◌else◌, List, [], ◌∷◌, ◌++◌, map, length, slice_get, Option, None, Some, is_some}
use Rattle.std.specs.List.{list_all}
use Rattle.ff_loop.specs.Events.{SchedEvent, Offered, Given, Back}
use Rattle.ff_prog.specs.Rules.{is_task}
use Rattle.ff_prog.specs.Writers.{latest, reads}
use Rattle.ff_prog.specs.declared.op.MdfOp.TheVariants.{Copy}
use Rattle.ff_prog.specs.declared.statement.Statement.{Statement}
use Rattle.ff_prog.specs.declared.statement.Statement.TheVariants.{Task, Out}
use Rattle.ff_mdf.specs.Orders.{Back as CameBack, back_of, by_backs}
use Rattle.ff_mdf.specs.Stores.{Env, value_of, value_if}
use Rattle.ff_mdf.specs.Values.{applied}
use Rattle.ff_mdf.specs.declared.value.Value.TheVariants.{Bad}
use Rattle.ff_mdf.specs.declared.value.MdfAnswer.{MdfAnswer}
use Rattle.ff_mdf_tasks.specs.declared.task.MdfTask.{MdfTask}

-- what happened to the tasks of a program
abbrev pub MdfEvent : Type 0
MdfEvent = SchedEvent MdfTask MdfAnswer

-- the answers that came back, the latest first; a statement is named by its place, counted from 0
abbrev pub came_back : List MdfEvent → List CameBack
came_back [] = []
came_back (Offered t ∷ log) = came_back log
came_back (Given id t ∷ log) = came_back log
came_back (Back id a ∷ log) = record { id = id; answer = a } ∷ came_back log

-- whether a writer, where there is one, is back
abbrev pub writer_back : List CameBack → Option ℕ → Bool
writer_back backs None = true
writer_back backs (Some j) = is_some (back_of backs j)

-- whether the latest writer of a name before statement `k` is back
abbrev pub is_back : List Statement → List CameBack → ℕ → List ℕ → Bool
is_back ss backs k n = writer_back backs (latest ss n k)

-- whether statement `k` is a task for which every name that it reads has its latest earlier writer back
abbrev pub is_ready : List Statement → List CameBack → ℕ → Bool
is_ready ss backs k = is_task (slice_get ss k) && list_all (is_back ss backs k) (reads (slice_get ss k))

-- the task of statement `k`, with the values of its operands; `out` and no statement give one that doesn't count
abbrev pub task_by : ℕ → Option Statement → Env → MdfTask
task_by k (Some (Task first second op a b c)) env = record { number = suc k; op = op; a = value_of env a; b = value_if env b; c = value_if env c }
task_by k (Some (Out names)) env = record { number = suc k; op = Copy; a = Bad; b = None; c = None }
task_by k None env = record { number = suc k; op = Copy; a = Bad; b = None; c = None }

-- the same with the values that came back
abbrev pub task_at : List Statement → List CameBack → ℕ → MdfTask
task_at ss backs k = task_by k (slice_get ss k) (by_backs ss backs k)

-- those of the first `k` statements that are ready
abbrev pub ready_until : List Statement → List CameBack → ℕ → List ℕ
ready_until ss backs zero = []
ready_until ss backs (suc k) = if is_ready ss backs k then ready_until ss backs k ++ k ∷ [] else ready_until ss backs k

-- each task of the program for which every name that it reads has its latest earlier writer back, with the values that came back
abbrev pub program_made : List Statement → List MdfEvent → List MdfTask
program_made ss log = map (task_at ss (came_back log)) (ready_until ss (came_back log) (length ss))

-- what is answered to a task
abbrev pub answer_of : MdfTask → MdfAnswer
answer_of t = applied t.op t.a t.b t.c
