-- What the scheduler of a division holds, weighed.
use Rattle.std.proofs.Common.{◌≡◌, ℕ, ◌+◌, ◌≤◌, List, [], ◌∷◌, ◌++◌, map, Some, refl, subst, arith}
use Rattle.std.specs.List.{AllByRecursion}
use Rattle.ff_rec.specs.Weights.{weigh}
use Rattle.ff_rec.proofs.WeightLaws.{weigh-append}
use Rattle.ff_dc.specs.declared.rule.DcRule.{DcRule}
use Rattle.ff_dc.specs.Divisions.{Division, Whole, Cut, part_at, Answers}
use Rattle.ff_loop.specs.Events.{given}
use Rattle.ff_dc_tasks.specs.declared.task.DcTask.{DcTask}
use Rattle.ff_dc_tasks.specs.declared.task.DcTask.TheVariants.{Seq, Combine}
use Rattle.ff_dc_tasks.specs.declared.todo.Later.{Later}
use Rattle.ff_dc_tasks.specs.declared.walk.Walk.{Walk}
use Rattle.ff_dc_tasks.specs.Tasks.{number_of, IsTask}
use Rattle.ff_dc_tasks.specs.Paths.{IsLow, IsProper}
use Rattle.ff_dc_tasks.specs.Walks.{StandsAt, IsWalk, division_of, to_come, seqs_after}
use Rattle.ff_dc_tasks.specs.Pairs.{task_of}
use Rattle.ff_dc_tasks.specs.Told.{answers, dc_made}
use Rattle.ff_dc_tasks.specs.Dividers.{DividerState, whole_of, IsRight}
use Rattle.ff_dc_tasks.proofs.Marks.{hit, for_number, for_number-once}
use Rattle.ff_dc_tasks.proofs.WalkTasks.{seqs_after-late}
use Rattle.ff_dc_tasks.proofs.WalkSteps.{to_come-some}

-- one more at the end, and that one taken away
pub AllByRecursion-push : {X : Type 0} (P : X → Type 0) (xs : List X) (x : X) → AllByRecursion P xs → P x → AllByRecursion P (xs ++ x ∷ [])
AllByRecursion-push P [] x all it = (it, tt)
AllByRecursion-push P (y ∷ xs) x all it = (all.0, AllByRecursion-push P xs x all.1 it)

pub AllByRecursion-pop : {X : Type 0} (P : X → Type 0) (xs : List X) (x : X) → AllByRecursion P (xs ++ x ∷ []) → AllByRecursion P xs × P x
AllByRecursion-pop P [] x all = (tt, all.0)
AllByRecursion-pop P (y ∷ xs) x all =
    let rest = AllByRecursion-pop P xs x all.1 in ((all.0, rest.0), rest.1)

-- nothing is to come where no part is held
pub to_come-none : (rule : DcRule) (w : Walk) → IsWalk rule w → w.todo ≡ [] → to_come rule w ≡ []
to_come-none rule w walk none =
    let over : StandsAt (division_of rule w) walk.room w.number [] = subst (StandsAt (division_of rule w) walk.room w.number) none walk.stands in
    seqs_after-late w.number 0 (division_of rule w) (omega (arith, over.0))

-- where nothing is to come no part is held
pub todo-none : (rule : DcRule) (cut : ℕ) (d : Division) (room n : ℕ) (xs : List Later) → IsProper rule cut d → IsLow 24 d → StandsAt d room n xs
    → weigh (λ _. 1) (seqs_after n 0 d) ≡ 0 → xs ≡ []
todo-none rule cut d room n [] proper low stands none = refl
todo-none rule cut d room n (x ∷ xs) proper low stands none = absurd (omega (arith, none, to_come-some rule cut d proper low room n x xs stands))

-- a task of a division is for one of its parts
pub part_at-task : (d : Division) (done : Answers) (t : DcTask) → IsTask d done t → (e : Division) × (part_at d (number_of t) ≡ Some e)
part_at-task d done (Seq n p) task = (Whole p, task)
part_at-task d done (Combine n v w) task = (Cut task.0 task.1 task.2, task.3)

-- the weight of the tasks that there are
pub weigh-made : (s : DividerState) → IsRight s → (h : DcTask → ℕ)
    → weigh h (dc_made (whole_of s) s.events) ≡ weigh h (given s.events) + weigh h (to_come s.rule s.walk) + weigh h (map task_of s.ready)
weigh-made s right h = omega (
  arith,
  right.tasks.by h,
  weigh-append h (given s.events ++ to_come s.rule s.walk) (map task_of s.ready),
  weigh-append h (given s.events) (to_come s.rule s.walk),
)

-- no part was given twice
pub given-once : (s : DividerState) → IsRight s → (n : ℕ) → for_number n (given s.events) ≤ 1
given-once s right n = omega (arith, weigh-made s right (λ t. hit n (number_of t)), for_number-once n 0 (whole_of s) (answers s.events))
