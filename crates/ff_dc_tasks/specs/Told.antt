-- What happened to the tasks of a division.
use Rattle.std.specs.Prelude.{◌≡◌, ℕ, ◌==◌, if◌then◌else◌, List, [], ◌∷◌, ℤ}
use Rattle.ff_dc.specs.Divisions.{Division, Answers}
use Rattle.ff_loop.specs.Events.{SchedEvent, Offered, Given, Back}
use Rattle.ff_dc_tasks.specs.declared.task.DcTask.{DcTask}
use Rattle.ff_dc_tasks.specs.Tasks.{number_of, tasks_from, IsTask}
use Rattle.ff_dc_tasks.specs.Paths.{path_at, number_in, path_in}

-- a task was given, or the values of a part came back
abbrev pub DcEvent : Type 0
DcEvent = SchedEvent DcTask (List ℤ)

-- the number of the part whose task was given with this id
abbrev pub number_with : ℕ → List DcEvent → ℕ
number_with id [] = 0
number_with id (Offered t ∷ log) = number_with id log
number_with id (Given i t ∷ log) = if i == id then number_of t else number_with id log
number_with id (Back i a ∷ log) = number_with id log

-- the numbers of the parts whose tasks are back, with their values, the last first
abbrev pub answers : List DcEvent → Answers
answers [] = []
answers (Offered t ∷ log) = answers log
answers (Given i t ∷ log) = answers log
answers (Back i a ∷ log) = (number_with i log, a) ∷ answers log

-- the tasks of a whole division
abbrev pub dc_made : Division → List DcEvent → List DcTask
dc_made whole log = tasks_from 0 whole (answers log)

-- tasks were given by ids that tell their places, and answers came back by these
abbrev pub IsTold : Division → List DcEvent → Type 0
IsTold d [] = Unit {0}
IsTold d (Offered t ∷ log) = IsTold d log
IsTold d (Given id t ∷ log) =
    (number_in id ≡ number_of t) × (path_in id ≡ path_at d (number_of t)) × IsTask d (answers log) t × IsTold d log
IsTold d (Back id a ∷ log) = (number_with id log ≡ number_in id) × IsTold d log
