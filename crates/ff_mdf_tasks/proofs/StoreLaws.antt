-- Where all tasks are answered, the store is that of program order.
use Rattle.std.proofs.Common.{◌≡◌, ℕ, zero, suc, ◌+◌, ◌<◌, ◌≤◌, Bool, true, false, List, [], ◌∷◌, ◌++◌, Option, None, Some, length, map, take, refl, sym, ap, ◌∙◌, subst, arith, inl, inr, eq-eqb, length-append}
use Rattle.std.specs.Prelude.{◌==◌, if◌then◌else◌, is_some, slice_get}
use Rattle.std.specs.List.{list_all}
use Rattle.std.proofs.lemmas.Bool.{and_from, and_left, cases_Bool, cases_eq, cond-true, cond-false, ne_eqb}
use Rattle.std.proofs.lemmas.List.{take_all}
use Rattle.ff_rec.proofs.WeightLaws.{Same-length}
use Rattle.ff_loop.specs.Events.{Offered, Given, Back, backs, numbers, HasGiven, AreAnswered, IsIdle}
use Rattle.ff_loop.specs.Scheduling.{made_by}
use Rattle.ff_prog.specs.Rules.{is_task, tasks_until}
use Rattle.ff_prog.specs.Writers.{latest, reads, writes, out_names}
use Rattle.ff_prog.specs.declared.statement.Statement.{Statement}
use Rattle.ff_prog.specs.declared.statement.Statement.TheVariants.{Task, Out}
use Rattle.ff_mdf.specs.Orders.{Back as CameBack, back_of, by_backs, IsBack, IsSound, OrderLaw}
use Rattle.ff_mdf.specs.Stores.{Env, after, answer, store, valued}
use Rattle.ff_mdf.proofs.LinkedValues.{latest-lt}
use Rattle.ff_mdf.proofs.Orders.{orders}
use Rattle.ff_mdf_tasks.specs.declared.task.MdfTask.{MdfTask}
use Rattle.ff_mdf_tasks.specs.Occurrences.{flag, Same-ready_until}
use Rattle.ff_mdf_tasks.specs.Queues.{occurs}
use Rattle.ff_mdf_tasks.specs.Schedulers.{MdfState, IsFit, IsRight, mdf_does, store_so_far}
use Rattle.ff_mdf_tasks.specs.Tasks.{MdfEvent, answer_of, came_back, is_back, is_ready, ready_until, task_by, task_at, writer_back}
use Rattle.ff_mdf_tasks.proofs.CameBacks.{is_ready-parts, is_ready-stays, list_all-each, list_all-follows, task_at-stays}
use Rattle.ff_mdf_tasks.proofs.SchedulerIdles.{next-idle, out-idle}

-- a task that was given is ready still, with the same values
HasGiven-fit : (ss : List Statement) (log : List MdfEvent) (id : ℕ) (t : MdfTask) → IsFit ss log → HasGiven id t log
    → (is_ready ss (came_back log) id ≡ true) × (t ≡ task_at ss (came_back log) id)
HasGiven-fit ss [] id t fit h = absurd h
HasGiven-fit ss (Offered u ∷ log) id t fit h = HasGiven-fit ss log id t fit h
HasGiven-fit ss (Given k u ∷ log) id t fit (inl same) = (
  subst (λ j. is_ready ss (came_back log) j ≡ true) same.0 fit.0,
  sym same.1 ∙ fit.1 ∙ ap (task_at ss (came_back log)) same.0,
)
HasGiven-fit ss (Given k u ∷ log) id t fit (inr h) = HasGiven-fit ss log id t fit.2 h
HasGiven-fit ss (Back k a ∷ log) id t fit h =
    let before = HasGiven-fit ss log id t fit.1 h in
    let came : CameBack = record { id = k; answer = a } in (
      is_ready-stays (came_back log) came fit.0 ss id before.0,
      before.1 ∙ sym (task_at-stays (came_back log) came fit.0 ss id before.0),
    )

-- the answer to a task is what its statement gives
answer_of-task_by : (k : ℕ) (s : Option Statement) (env : Env) → is_task s ≡ true → answer_of (task_by k s env) ≡ answer s env
answer_of-task_by k (Some (Task first second op a b c)) env task = refl
answer_of-task_by k (Some (Out names)) env task = cc
answer_of-task_by k None env task = cc

-- the writers of a name are back by the test
IsBack-writer_back : (ss : List Statement) (log : List CameBack) (k : ℕ) (n : List ℕ) → is_back ss log k n ≡ true → IsBack ss log k n
IsBack-writer_back ss log k n back j at = subst (λ o. writer_back log o ≡ true) at back

-- what came back is sound, where tasks were answered as they are to be
pub IsSound-answered : (ss : List Statement) (log : List MdfEvent) → IsFit ss log → AreAnswered answer_of log → IsSound ss (came_back log)
IsSound-answered ss [] fit answered = tt
IsSound-answered ss (Offered t ∷ log) fit answered = IsSound-answered ss log fit answered
IsSound-answered ss (Given id t ∷ log) fit answered = IsSound-answered ss log fit.2 answered
IsSound-answered ss (Back id a ∷ log) fit answered =
    let given = HasGiven-fit ss log id answered.0.0 fit.1 answered.0.1 in
    let both = is_ready-parts ss (came_back log) id given.0 in (
      list_all-follows (is_back ss (came_back log) id) (IsBack ss (came_back log) id) (λ n. IsBack-writer_back ss (came_back log) id n)
          (reads (slice_get ss id)) both.1,
      answered.0.2 ∙ ap (λ t. answer_of t) given.1 ∙ answer_of-task_by id (slice_get ss id) (by_backs ss (came_back log) id) both.0,
      IsSound-answered ss log fit.1 answered.1,
    )

-- a statement that writes is a task
is_task-writes : (s : Option Statement) (n : List ℕ) → writes s n ≡ true → is_task s ≡ true
is_task-writes (Some (Task first second op a b c)) n w = refl
is_task-writes (Some (Out names)) n w = w
is_task-writes None n w = w

is_task-latest : (ss : List Statement) (n : List ℕ) (k j : ℕ) → latest ss n k ≡ Some j → is_task (slice_get ss j) ≡ true
is_task-latest ss n zero j e = cc
is_task-latest ss n (suc k) j e = elim (cases_Bool (writes (slice_get ss k) n)) [
  | inl found ↦
      let same : k ≡ j = let at : Some k ≡ Some j = sym (cond-true (writes (slice_get ss k) n) (Some k) (latest ss n k) found) ∙ e in cc in
      subst (λ i. is_task (slice_get ss i) ≡ true) same (is_task-writes (slice_get ss k) n found)
  | inr none ↦ is_task-latest ss n k j (sym (cond-false (writes (slice_get ss k) n) (Some k) (latest ss n k) none) ∙ e)
]

-- a number that came back has its answer
back_of-occurs : (log : List MdfEvent) (id : ℕ) → 0 < occurs id (backs log) → is_some (back_of (came_back log) id) ≡ true
back_of-occurs [] id some = absurd (omega arith)
back_of-occurs (Offered t ∷ log) id some = back_of-occurs log id some
back_of-occurs (Given k t ∷ log) id some = back_of-occurs log id some
back_of-occurs (Back k a ∷ log) id some = elim (cases_eq k id) [
  | inl e ↦ ap (λ r. is_some r) (cond-true (k == id) (Some a) (back_of (came_back log) id) (eq-eqb k id e))
  | inr other ↦
      let none : flag (id == k) ≡ 0 = ap flag (ne_eqb id k (λ e. other (sym e))) in
      ap (λ r. is_some r) (cond-false (k == id) (Some a) (back_of (came_back log) id) (ne_eqb k id other)) ∙ back_of-occurs log id (omega arith)
]

-- the scheduler is idle
module _ (s : MdfState) (right : IsRight s) (idle : IsIdle (made_by mdf_does s) s.events) where
  -- what is ready is back
  back-ready : (k : ℕ) → is_ready s.program (came_back s.events) k ≡ true → is_some (back_of (came_back s.events) k) ≡ true
  back-ready k ready =
      let once : occurs k s.queue.order ≡ 1 = right.queued k ∙ ap flag ready in
      let all : take s.next s.queue.order ≡ s.queue.order = take_all s.next s.queue.order (omega (arith, next-idle s right idle)) in
      let given : occurs k (numbers s.events) ≡ 1 = right.numbered.by (λ x. flag (k == x)) ∙ ap (occurs k) all ∙ once in
      let come : occurs k (numbers s.events) ≤ occurs k (backs s.events) = idle.1.by (λ x. flag (k == x)) in
      back_of-occurs s.events k (omega arith)

  -- where the tasks before it are back, a task is ready
  ready-behind : (k : ℕ) → is_task (slice_get s.program k) ≡ true
      → ((j : ℕ) → j < k → is_task (slice_get s.program j) ≡ true → is_some (back_of (came_back s.events) j) ≡ true) → is_ready s.program (came_back s.events) k ≡ true
  ready-behind k task before =
      and_from (is_task (slice_get s.program k)) (list_all (is_back s.program (came_back s.events) k) (reads (slice_get s.program k))) task
      (list_all-each (is_back s.program (came_back s.events) k) (λ n. writer n (latest s.program n k) (latest-lt s.program n k) (is_task-latest s.program n k)) (reads (slice_get s.program k)))
    where
      writer : (n : List ℕ) (o : Option ℕ) → ((j : ℕ) → o ≡ Some j → j < k) → ((j : ℕ) → o ≡ Some j → is_task (slice_get s.program j) ≡ true)
          → writer_back (came_back s.events) o ≡ true
      writer n None less task = refl
      writer n (Some j) less task = before j (less j refl) (task j refl)

  back-below : (m j : ℕ) → j < m → is_task (slice_get s.program j) ≡ true → is_some (back_of (came_back s.events) j) ≡ true
  back-below zero j less task = absurd (omega (arith, less))
  back-below (suc m) j less task = back-ready j (ready-behind j task (λ i below. back-below m i (omega (arith, below, less))))

  -- every task is back, and was ready
  pub all_back : (k : ℕ) → is_task (slice_get s.program k) ≡ true → is_some (back_of (came_back s.events) k) ≡ true
  all_back k task = back-below (suc k) k (omega arith) task

  all_ready : (k : ℕ) → is_ready s.program (came_back s.events) k ≡ is_task (slice_get s.program k)
  all_ready k = elim (cases_Bool (is_task (slice_get s.program k))) [
    | inl task ↦ ready-behind k task (λ j _. all_back j) ∙ sym task
    | inr none ↦ and_left (is_task (slice_get s.program k)) (list_all (is_back s.program (came_back s.events) k) (reads (slice_get s.program k))) none ∙ sym none
  ]

  -- as many answers came back as there are tasks
  length-ready_until : (k : ℕ) → length (ready_until s.program (came_back s.events) k) ≡ tasks_until s.program k
  length-ready_until zero = refl
  length-ready_until (suc k) =
      step (is_ready s.program (came_back s.events) k) (ready_until s.program (came_back s.events) k)
      ∙ ap (λ n. if is_ready s.program (came_back s.events) k then n + 1 else n) (length-ready_until k)
      ∙ ap (λ b. if b then tasks_until s.program k + 1 else tasks_until s.program k) (all_ready k)
    where
      step : (b : Bool) (xs : List ℕ) → length (if b then xs ++ k ∷ [] else xs) ≡ (if b then length xs + 1 else length xs)
      step true xs = length-append xs (k ∷ [])
      step false xs = refl

  pub length-backs : length (backs s.events) ≡ tasks_until s.program (length s.program)
  length-backs =
      back
      ∙ next-idle s right idle
      ∙ Same-length (Same-ready_until s.program (came_back s.events) s.queue.order right.queued)
      ∙ length-ready_until (length s.program)
    where
      back : length (backs s.events) ≡ s.next
      back = omega (arith, right.counted, out-idle s right idle)

  -- and where they were answered as they are to be, the names have their values of the store
  pub store_so_far-store : AreAnswered answer_of s.events → store_so_far s ≡ store s.program
  store_so_far-store answered = values (out_names s.program)
    where
      law : OrderLaw s.program (came_back s.events)
      law = orders s.program (came_back s.events) (IsSound-answered s.program s.events right.fit answered)

      value : (n : List ℕ) → by_backs s.program (came_back s.events) (length s.program) n ≡ after s.program (length s.program) n
      value n = law.values (length s.program) n (λ j at. all_back j (is_task-latest s.program n (length s.program) j at))

      values : (ns : List (List ℕ)) → map (valued (by_backs s.program (came_back s.events) (length s.program))) ns ≡ map (valued (after s.program (length s.program))) ns
      values [] = refl
      values (n ∷ ns) =
          ap (λ v. valued (λ _. v) n ∷ map (valued (by_backs s.program (came_back s.events) (length s.program))) ns) (value n)
          ∙ ap (λ l. valued (after s.program (length s.program)) n ∷ l) (values ns)
