-- The scheduler of a program when an answer comes back.
use Rattle.std.proofs.Common.{◌≡◌, ℕ, ◌+◌, ◌-◌, ◌<◌, ◌≤◌, true, false, List, [], ◌∷◌, None, Some, length, map, take, set, refl, sym, ap, ◌∙◌, subst, arith, inl, inr, length-append, length-set, get_or-set_same, get_or-set_other, eq-eqb}
use Rattle.std.specs.Prelude.{◌==◌}
use Rattle.std.proofs.lemmas.Bool.{both_ways, cases_Bool, cases_eq, cond-false, cond-true, ne_eqb}
use Rattle.std.proofs.lemmas.List.{length-take, take-append-le}
use Rattle.ff_rec.specs.Weights.{weigh}
use Rattle.ff_rec.proofs.WeightLaws.{weigh-one}
use Rattle.ff_loop.specs.Events.{Offered, Given, Back, numbers, backs, IsOut}
use Rattle.ff_loop.specs.Scheduling.{Goes}
use Rattle.ff_mdf.specs.Orders.{back_of, Back as CameBack}
use Rattle.ff_mdf.specs.declared.value.MdfAnswer.{MdfAnswer}
use Rattle.ff_mdf_tasks.specs.ByLinks.{answer_in}
use Rattle.ff_mdf_tasks.specs.Occurrences.{flag, occurs-append, occurs-fails, map-occurs, weigh-take-le, is_ready-within}
use Rattle.ff_mdf_tasks.specs.Queues.{occurs, QueueState, Adds, Wakes, ready_by}
use Rattle.ff_mdf_tasks.specs.Schedulers.{MdfState, IsRight, mdf_does}
use Rattle.ff_mdf_tasks.specs.Tasks.{MdfEvent, came_back, is_ready, task_at}
use Rattle.ff_mdf_tasks.proofs.CameBacks.{is_ready-stays, task_at-stays}
use Rattle.ff_mdf_tasks.proofs.LinkedTasks.{is_ready-new, ready_by-is_ready}
use Rattle.ff_mdf_tasks.proofs.QueueLaws.{Adds-occurs, Adds-test}
use Rattle.ff_mdf_tasks.proofs.ReaderLaws.{IsReader, IsReader-place}
use Rattle.ff_mdf_tasks.proofs.SchedulerSteps.{is_ready-queued, queued-few}

-- a number that isn't back has no answer
back_of-none : (log : List MdfEvent) (id : ℕ) → occurs id (backs log) ≡ 0 → back_of (came_back log) id ≡ None
back_of-none [] id none = refl
back_of-none (Offered t ∷ log) id none = back_of-none log id none
back_of-none (Given k t ∷ log) id none = back_of-none log id none
back_of-none (Back k a ∷ log) id none = elim (cases_eq id k) [
  | inl e ↦ (let one : flag (id == k) ≡ 1 = ap flag (eq-eqb id k e) in absurd (omega arith))
  | inr other ↦ cond-false (k == id) (Some a) (back_of (came_back log) id) (ne_eqb k id (λ e. other (sym e))) ∙ back_of-none log id (omega arith)
]

module _ (s : MdfState) (right : IsRight s) where
  -- an answer comes back
  module _ (id : ℕ) (a : MdfAnswer) (is_out : IsOut id s.events) where
    abbrev came : CameBack
    came = record { id = id; answer = a }

    given_once : (occurs id (backs s.events) ≡ 0) × (0 < occurs id s.queue.order)
    given_once =
        let one : flag (id == id) ≡ 1 = ap flag (eq-eqb id id refl) in
        let out : flag (id == id) + occurs id (backs s.events) ≤ occurs id (numbers s.events) = is_out.by (λ x. flag (id == x)) in
        let same : occurs id (numbers s.events) ≡ occurs id (take s.next s.queue.order) = right.numbered.by (λ x. flag (id == x)) in
        let first : occurs id (take s.next s.queue.order) ≤ occurs id s.queue.order = weigh-take-le (λ x. flag (id == x)) s.next s.queue.order in
        let few : occurs id s.queue.order ≤ 1 = queued-few s right id in
        (omega arith, omega arith)

    pub back-within : id < length s.program
    back-within = is_ready-within s.program (came_back s.events) id (is_ready-queued s right id (given_once.1))

    pub out-back : 1 ≤ s.out
    out-back = omega (arith, right.counted, is_out.by (λ _. 1), weigh-one (backs s.events), weigh-one (numbers s.events), right.numbered.by (λ _. 1), weigh-one (take s.next s.queue.order), short)
      where
        short : length (take s.next s.queue.order) ≤ s.next
        short = omega (arith, length-take s.next s.queue.order)

    fresh : back_of (came_back s.events) id ≡ None
    fresh = back_of-none s.events id (given_once.0)

    pub answered-back : (k : ℕ) → answer_in (set s.answers id (Some a)) k ≡ back_of (came ∷ came_back s.events) k
    answered-back k = elim (cases_eq k id) [
      | inl e ↦ subst (λ j. answer_in (set s.answers id (Some a)) j ≡ back_of (came ∷ came_back s.events) j) (sym e)
          (get_or-set_same s.answers id (Some a) None (omega (arith, back-within, right.many)) ∙ sym (cond-true (id == id) (Some a) (back_of (came_back s.events) id) (eq-eqb id id refl)))
      | inr other ↦ get_or-set_other s.answers id k (Some a) None other ∙ right.answered k ∙ sym (cond-false (id == k) (Some a) (back_of (came_back s.events) k) (ne_eqb id k (λ e. other (sym e))))
    ]

    module _ (q : QueueState) (wakes : Wakes s.program (answer_in (set s.answers id (Some a))) id s.queue q) where
      adds : Adds (is_ready s.program (came ∷ came_back s.events)) s.queue.order q.order
      adds = Adds-test (ready_by s.program (answer_in (set s.answers id (Some a)))) (is_ready s.program (came ∷ came_back s.events)) s.queue.order q.order
          (λ k. ready_by-is_ready (answer_in (set s.answers id (Some a))) (came ∷ came_back s.events) answered-back s.program k) wakes.adds

      -- a statement that becomes ready is queued
      reader-queued : (k : ℕ) → is_ready s.program (came ∷ came_back s.events) k ≡ true → IsReader s.program id k → 0 < occurs k q.order
      reader-queued k ready r = subst (λ j. 0 < occurs j q.order) r.statement (wakes.all r.operand r.within r.reads
          (ap (ready_by s.program (answer_in (set s.answers id (Some a)))) r.statement
          ∙ ready_by-is_ready (answer_in (set s.answers id (Some a))) (came ∷ came_back s.events) answered-back s.program k ∙ ready))

      new-queued : (k : ℕ) → is_ready s.program (came ∷ came_back s.events) k ≡ true → is_ready s.program (came_back s.events) k ≡ false → 0 < occurs k q.order
      new-queued k now before =
          let ss = s.program in
          let less = is_ready-within ss (came ∷ came_back s.events) k now in
          elim (is_ready-new ss (came_back s.events) came k now before) [
            | inl h ↦ reader-queued k now (IsReader-place ss id k 0 less (omega arith) h)
            | inr more ↦ elim more [
              | inl h ↦ reader-queued k now (IsReader-place ss id k 1 less (omega arith) h)
              | inr h ↦ reader-queued k now (IsReader-place ss id k 2 less (omega arith) h)
            ]
          ]

      queued-back : (k : ℕ) → occurs k q.order ≡ flag (is_ready s.program (came ∷ came_back s.events) k)
      queued-back k = elim (cases_Bool (is_ready s.program (came ∷ came_back s.events) k)) [
        | inl now ↦
            let few : occurs k q.order ≤ 1 = adds.once k (queued-few s right k) in
            let some : 0 < occurs k q.order = elim (cases_Bool (is_ready s.program (came_back s.events) k)) [
              | inl before ↦ omega (arith, Adds-occurs (is_ready s.program (came ∷ came_back s.events)) s.queue.order q.order k adds, right.queued k ∙ ap flag before)
              | inr before ↦ new-queued k now before
            ] in
            let one : occurs k q.order ≡ 1 = omega arith in
            one ∙ sym (ap flag now)
        | inr never ↦
            let before : is_ready s.program (came_back s.events) k ≡ false = elim (cases_Bool (is_ready s.program (came_back s.events) k)) [
              | inl found ↦ absurd (both_ways (is_ready s.program (came ∷ came_back s.events) k) never (is_ready-stays (came_back s.events) came fresh s.program k found))
              | inr no_more ↦ no_more
            ] in
            let none : occurs k s.queue.order ≡ 0 = right.queued k ∙ ap flag before in
            let none_more : occurs k adds.more ≡ 0 = occurs-fails (is_ready s.program (came ∷ came_back s.events)) k adds.more adds.pass never in
            let sum : occurs k s.queue.order + occurs k adds.more ≡ 0 = omega arith in
            ap (occurs k) adds.is ∙ occurs-append k s.queue.order adds.more ∙ sum ∙ sym (ap flag never)
      ]

      first_stays : take s.next q.order ≡ take s.next s.queue.order
      first_stays = ap (take s.next) adds.is ∙ take-append-le s.next s.queue.order adds.more right.within

      pub Goes-back : Goes mdf_does s (record s { answers = set s.answers id (Some a); queue = q; out = s.out - 1; events = Back id a ∷ s.events }) (Back id a ∷ s.events)
      Goes-back = record {
        right = record {
          readers = right.readers;
          many = length-set s.answers id (Some a) ∙ right.many;
          answered = answered-back;
          fit = (fresh, right.fit);
          size = wakes.size ∙ right.size;
          queued = queued-back;
          within = omega (arith, right.within, ap (λ l. length l) adds.is, length-append s.queue.order adds.more);
          gave =
              right.gave
              ∙ sym (map-occurs (task_at s.program (came ∷ came_back s.events)) (task_at s.program (came_back s.events)) (take s.next s.queue.order)
              (λ k some. task_at-stays (came_back s.events) came fresh s.program k
              (is_ready-queued s right k (omega (arith, some, weigh-take-le (λ x. flag (k == x)) s.next s.queue.order)))))
              ∙ ap (map (task_at s.program (came ∷ came_back s.events))) (sym first_stays);
          numbered = record { by = λ h. right.numbered.by h ∙ ap (weigh h) (sym first_stays) };
          balance = is_out;
          counted = omega (arith, right.counted, out-back);
        };
        kind = refl;
        events = refl;
        taken = refl;
      }
