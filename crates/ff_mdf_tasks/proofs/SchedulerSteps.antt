-- The steps of the scheduler of a program: a task is fed in, and the next one is given.
use Rattle.std.proofs.Common.{◌≡◌, ℕ, ◌+◌, ◌-◌, ◌<◌, ◌≤◌, Bool, true, false, List, [], ◌∷◌, ◌++◌, Some, length, map, take, refl, sym, ap, ◌∙◌, subst, arith, inl, inr, eq-eqb}
use Rattle.std.specs.Prelude.{◌==◌, slice_get}
use Rattle.std.specs.List.{AllByRecursion}
use Rattle.std.proofs.lemmas.Bool.{cases_Bool}
use Rattle.std.proofs.lemmas.List.{map-append, take_more, take_all}
use Rattle.std.proofs.lemmas.Option.{get_or_from_slice_get, slice_get_within}
use Rattle.ff_rec.specs.Weights.{weigh}
use Rattle.ff_rec.proofs.WeightLaws.{weigh-append}
use Rattle.ff_loop.specs.Events.{Offered, Given, numbers, IsReady, IsNew, NoneReady}
use Rattle.ff_loop.specs.Scheduling.{Goes, made_by}
use Rattle.ff_mdf_tasks.specs.declared.task.MdfTask.{MdfTask}
use Rattle.ff_mdf_tasks.specs.Occurrences.{flag, occurs-push_same, weigh-take-le, is_ready-within}
use Rattle.ff_mdf_tasks.specs.Queues.{occurs}
use Rattle.ff_mdf_tasks.specs.SchedulerLaws.{weight, weigh-made, weigh-gave}
use Rattle.ff_mdf_tasks.specs.Schedulers.{MdfState, IsRight, mdf_does}
use Rattle.ff_mdf_tasks.specs.Tasks.{came_back, is_ready, task_at}

-- a number that doesn't occur is new
numbers-new : (id : ℕ) (xs : List ℕ) → occurs id xs ≡ 0 → AllByRecursion (λ n. ¬ (n ≡ id)) xs
numbers-new id [] none = tt
numbers-new id (x ∷ xs) none = (λ e. (let one : flag (id == x) ≡ 1 = ap flag (eq-eqb id x (sym e)) in omega arith), numbers-new id xs (omega arith))

module _ (s : MdfState) (right : IsRight s) where
  -- a statement that stands in the queue is ready, and a statement of the program
  pub is_ready-queued : (k : ℕ) → 0 < occurs k s.queue.order → is_ready s.program (came_back s.events) k ≡ true
  is_ready-queued k some = elim (cases_Bool (is_ready s.program (came_back s.events) k)) [
    | inl e ↦ e
    | inr e ↦ (let none : occurs k s.queue.order ≡ 0 = right.queued k ∙ ap flag e in absurd (omega arith))
  ]

  pub queued-few : (k : ℕ) → occurs k s.queue.order ≤ 1
  queued-few k = subst (λ n. n ≤ 1) (sym (right.queued k)) (few (is_ready s.program (came_back s.events) k))
    where
      few : (b : Bool) → flag b ≤ 1
      few true = omega arith
      few false = omega arith

  -- a task that is fed in is dropped
  pub Goes-offered : (t : MdfTask) → Goes mdf_does s (record s { events = Offered t ∷ s.events }) (Offered t ∷ s.events)
  Goes-offered t = record {
    right = record {
      readers = right.readers;
      many = right.many;
      answered = right.answered;
      fit = right.fit;
      size = right.size;
      queued = right.queued;
      within = right.within;
      gave = right.gave;
      numbered = right.numbered;
      balance = right.balance;
      counted = right.counted;
    };
    kind = refl;
    events = refl;
    taken = refl;
  }

  -- nothing is ready where all of the queue was given
  pub NoneReady-all : length s.queue.order ≤ s.next → NoneReady (made_by mdf_does s) s.events
  NoneReady-all all = record {
    by = λ h. omega (arith, weigh-made s right h, weigh-gave s right h, ap (weigh (weight s right h)) (take_all s.next s.queue.order all));
  }

  -- the next of the queue
  module _ (k : ℕ) (at : slice_get s.queue.order s.next ≡ Some k) where
    below : s.next < length s.queue.order
    below = slice_get_within s.queue.order s.next k at

    one_more : take (s.next + 1) s.queue.order ≡ take s.next s.queue.order ++ k ∷ []
    one_more = take_more s.queue.order s.next 0 below ∙ ap (λ x. take s.next s.queue.order ++ x ∷ []) (get_or_from_slice_get s.queue.order s.next k 0 at)

    -- it stands there once, and so not among those before
    there : occurs k (take s.next s.queue.order) + 1 ≤ occurs k s.queue.order
    there = omega (arith, weigh-take-le (λ x. flag (k == x)) (s.next + 1) s.queue.order, ap (occurs k) one_more, occurs-push_same k (take s.next s.queue.order))

    pub is_ready-next : is_ready s.program (came_back s.events) k ≡ true
    is_ready-next = is_ready-queued k (omega (arith, there))

    pub next-within : k < length s.program
    next-within = is_ready-within s.program (came_back s.events) k is_ready-next

    abbrev task : MdfTask
    task = task_at s.program (came_back s.events) k

    -- it is given
    pub IsReady-next : IsReady (made_by mdf_does s) task s.events
    IsReady-next = record {
      by = λ h.
          let w = weight s right h in
          omega (
            arith,
            weigh-made s right h,
            weigh-gave s right h,
            weigh-take-le w (s.next + 1) s.queue.order,
            ap (weigh w) one_more,
            weigh-append w (take s.next s.queue.order) (k ∷ []),
          );
    }

    pub IsNew-next : IsNew k s.events
    IsNew-next = numbers-new k (numbers s.events) (omega (arith, right.numbered.by (λ x. flag (k == x)), there, queued-few k))

    pub Goes-next : Goes mdf_does s (record s { next = s.next + 1; out = s.out + 1; events = Given k task ∷ s.events }) (Given k task ∷ s.events)
    Goes-next = record {
      right = record {
        readers = right.readers;
        many = right.many;
        answered = right.answered;
        fit = (is_ready-next, refl, right.fit);
        size = right.size;
        queued = right.queued;
        within = omega (arith, below);
        gave =
            ap (λ l. l ++ task ∷ []) right.gave
            ∙ sym (map-append (task_at s.program (came_back s.events)) (take s.next s.queue.order) (k ∷ []))
            ∙ sym (ap (map (task_at s.program (came_back s.events))) one_more);
        numbered = record {
          by = λ h. omega (arith, right.numbered.by h, ap (weigh h) one_more, weigh-append h (take s.next s.queue.order) (k ∷ []));
        };
        balance = record { by = λ h. omega (arith, right.balance.by h) };
        counted = omega (arith, right.counted);
      };
      kind = refl;
      events = refl;
      taken = refl;
    }
