-- The steps of the scheduler of a program by what its code changes.
use Rattle.std.proofs.Common.{◌≡◌, ℕ, suc, ◌+◌, ◌-◌, ◌<◌, ◌≤◌, List, ◌∷◌, Option, None, Some, length, map, get_or, set, refl, sym, ap, ◌∙◌, subst, arith, inl, inr}
use Rattle.std.specs.Prelude.{slice_get}
use Rattle.std.proofs.lemmas.Bool.{cases_lt}
use Rattle.std.proofs.lemmas.List.{get_or-map}
use Rattle.std.proofs.lemmas.Option.{none-some, slice_get-get_or}
use Rattle.ff_loop.specs.Events.{Given, Back, IsReady, IsNew, IsOut}
use Rattle.ff_loop.specs.Scheduling.{Goes, Nexts, made_by}
use Rattle.ff_prog.specs.Links.{link, links_at, out_links}
use Rattle.ff_prog.specs.Writers.{out_names}
use Rattle.ff_prog.specs.declared.link.Link.{Link}
use Rattle.ff_mdf.specs.Orders.{by_backs}
use Rattle.ff_mdf.specs.declared.value.MdfAnswer.{MdfAnswer}
use Rattle.ff_mdf_tasks.specs.declared.task.MdfTask.{MdfTask}
use Rattle.ff_mdf_tasks.specs.ByLinks.{answer_in, task_linked, value_linked}
use Rattle.ff_mdf_tasks.specs.Queues.{QueueState, Wakes}
use Rattle.ff_mdf_tasks.specs.Schedulers.{MdfState, IsRight, mdf_does}
use Rattle.ff_mdf_tasks.specs.Tasks.{MdfEvent, came_back, task_at}
use Rattle.ff_mdf_tasks.proofs.LinkedTasks.{task_linked-task_at, value_linked-link}
use Rattle.ff_mdf_tasks.proofs.SchedulerBacks.{back-within, out-back, Goes-back}
use Rattle.ff_mdf_tasks.proofs.SchedulerSteps.{NoneReady-all, next-within, IsReady-next, IsNew-next, Goes-next}

-- a task is given
abbrev pub GivesNext : MdfState → ℕ → MdfTask → MdfState → Type 0
GivesNext w k t v = IsReady (made_by mdf_does w) t w.events × IsNew k w.events × Goes mdf_does w v (Given k t ∷ w.events)

module _ (u w : MdfState) (is : u ≡ w) (right : IsRight w) where
  before : IsRight u
  before = subst (λ (v : MdfState). IsRight v) (sym is) right

  -- none is ready
  pub Nexts-none : slice_get u.queue.order u.next ≡ None → Nexts mdf_does w None w
  Nexts-none none = subst (λ (v : MdfState). Nexts mdf_does v None v) is (
    NoneReady-all u before past,
    record { right = before; kind = refl; events = refl; taken = refl },
  )
    where
      past : length u.queue.order ≤ u.next
      past = elim (cases_lt u.next (length u.queue.order)) [
        | inl less ↦ absurd (none-some (get_or u.queue.order u.next 0) (sym none ∙ slice_get-get_or u.queue.order u.next 0 less))
        | inr all ↦ all
      ]

  -- the next is a statement of the program
  pub within-next : (k : ℕ) → slice_get u.queue.order u.next ≡ Some k → k < length u.program
  within-next k at = next-within u before k at

  -- no more are out than were given
  pub out-le : u.out ≤ u.next
  out-le = omega (arith, before.counted)

  pub GivesNext-by : (events : List MdfEvent) (k : ℕ) (t : MdfTask) → slice_get u.queue.order u.next ≡ Some k
      → t ≡ task_linked (suc k) (answer_in u.answers) (slice_get u.program k) (links_at u.program k) → events ≡ Given k t ∷ u.events
      → GivesNext w k t (record u { next = u.next + 1; out = u.out + 1; events = events })
  GivesNext-by events k t at task noted =
      let same : t ≡ task_at u.program (came_back u.events) k = task ∙ task_linked-task_at (answer_in u.answers) (came_back u.events) before.answered u.program k in
      let v : List MdfEvent → MdfState = λ e. record u { next = u.next + 1; out = u.out + 1; events = e } in
      subst (λ e. GivesNext w k t (v e)) (sym noted)
      (subst (λ (x : MdfState). GivesNext x k t (v (Given k t ∷ u.events))) is
      (subst (λ x. GivesNext u k x (v (Given k x ∷ u.events))) (sym same) (IsReady-next u before k at, IsNew-next u before k at, Goes-next u before k at)))

  -- an answer comes back
  module _ (id : ℕ) (a : MdfAnswer) (is_out : IsOut id w.events) where
    out_before : IsOut id u.events
    out_before = subst (λ (v : MdfState). IsOut id v.events) (sym is) is_out

    pub within-back : id < length u.program
    within-back = back-within u before id a out_before

    pub answer-within : id < length u.answers
    answer-within = omega (arith, within-back, before.many)

    pub some_out : 1 ≤ u.out
    some_out = out-back u before id a out_before

    pub Goes-back-by : (events : List MdfEvent) (xs : List (Option MdfAnswer)) (q : QueueState) → events ≡ Back id a ∷ u.events → xs ≡ set u.answers id (Some a)
        → Wakes u.program (answer_in xs) id u.queue q
        → Goes mdf_does w (record u { answers = set u.answers id (Some a); queue = q; out = u.out - 1; events = events }) (Back id a ∷ w.events)
    Goes-back-by events xs q noted answers wakes =
        let v : List MdfEvent → MdfState = λ e. record u { answers = set u.answers id (Some a); queue = q; out = u.out - 1; events = e } in
        subst (λ e. Goes mdf_does w (v e) (Back id a ∷ w.events)) (sym noted)
        (subst (λ (x : MdfState). Goes mdf_does x (v (Back id a ∷ u.events)) (Back id a ∷ x.events)) is
        (Goes-back u before id a out_before q (subst (λ ys. Wakes u.program (answer_in ys) id u.queue q) answers wakes)))

  -- the value of a name that is put out
  pub value-out : (xs : List (Option MdfAnswer)) (links : List (Option Link)) (names : List (List ℕ)) (k : ℕ) (n : List ℕ) → xs ≡ u.answers → links ≡ out_links u.program
      → names ≡ out_names u.program → k < length names → n ≡ get_or names k n
      → value_linked (answer_in xs) (get_or links k None) ≡ by_backs w.program (came_back w.events) (length w.program) n
  value-out xs links names k n answers links_are names_are below at =
      let f = link u.program (length u.program) in
      ap (λ ys. value_linked (answer_in ys) (get_or links k None)) answers
      ∙ ap (λ ls. value_linked (answer_in u.answers) (get_or ls k None)) (links_are ∙ ap (map f) (sym names_are))
      ∙ ap (value_linked (answer_in u.answers)) (get_or-map f names k n None below ∙ ap f (sym at))
      ∙ value_linked-link (answer_in u.answers) (came_back u.events) before.answered u.program (length u.program) n
      ∙ ap (λ (v : MdfState). by_backs v.program (came_back v.events) (length v.program) n) is
