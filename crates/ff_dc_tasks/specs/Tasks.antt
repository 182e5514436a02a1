-- The tasks of a division: which there are by the values that are back, and what they give.
use Rattle.std.specs.Prelude.{◌≡◌, ℕ, ◌+◌, ◌==◌, if◌then◌else◌, List, [], ◌∷◌, ◌++◌, Option, Some, None, ℤ}
use Rattle.ff_dc.specs.declared.rule.DcRule.{DcRule}
use Rattle.ff_dc.specs.Spans.{Span}
use Rattle.ff_dc.specs.Rules.{value, combined}
use Rattle.ff_dc.specs.Divisions.{Division, Whole, Cut, part_count, part_at, Answers, Has}
use Rattle.ff_dc_tasks.specs.declared.task.DcTask.{DcTask}
use Rattle.ff_dc_tasks.specs.declared.task.DcTask.TheVariants.{Seq, Combine}

-- the number of the part whose values a task gives
abbrev pub number_of : DcTask → ℕ
number_of (Seq n p) = n
number_of (Combine n v w) = n

-- what a task gives: the values of a part at once, or from those of its two parts
abbrev pub answer_of : DcRule → List ℤ → DcTask → List ℤ
answer_of rule ns (Seq n p) = value rule ns p
answer_of rule ns (Combine n v w) = combined rule v w

-- the values of the part with this number, once they are back
abbrev pub value_in : Answers → ℕ → Option (List ℤ)
value_in [] n = None
value_in (a ∷ done) n = if a.0 == n then Some a.1 else value_in done n

-- the task of a part that is divided, once both its parts have their values
abbrev pub combines : ℕ → Option (List ℤ) → Option (List ℤ) → List DcTask
combines n None w = []
combines n (Some v) None = []
combines n (Some v) (Some w) = Combine n v w ∷ []

-- the tasks of a part with this number and of all its parts: one for each that isn't divided, and one for each whose two parts have their values
abbrev pub tasks_from : ℕ → Division → Answers → List DcTask
tasks_from n (Whole p) done = Seq n p ∷ []
tasks_from n (Cut p l r) done =
    tasks_from (n + 1) l done ++ tasks_from (n + 1 + part_count l) r done
    ++ combines n (value_in done (n + 1)) (value_in done (n + 1 + part_count l))

-- a task of this division: a part that isn't divided, or one that is, with values that its two parts have
abbrev pub IsTask : Division → Answers → DcTask → Type 0
IsTask d done (Seq n p) = part_at d n ≡ Some (Whole p)
IsTask d done (Combine n v w) =
    (p : Span) × (l : Division) × (r : Division) × (part_at d n ≡ Some (Cut p l r)) × Has done (n + 1) v × Has done (n + 1 + part_count l) w
