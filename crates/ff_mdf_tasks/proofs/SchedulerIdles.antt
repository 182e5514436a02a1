-- The scheduler of a program is idle where all of its queue was given and is back.
use Rattle.std.proofs.Common.{◌≡◌, length, take, arith}
use Rattle.std.proofs.lemmas.List.{length-take}
use Rattle.ff_rec.proofs.WeightLaws.{weigh-one}
use Rattle.ff_loop.proofs.Fewer.{Within-back}
use Rattle.ff_loop.specs.Events.{numbers, backs, IsIdle}
use Rattle.ff_loop.specs.Scheduling.{made_by}
use Rattle.ff_mdf_tasks.specs.SchedulerLaws.{weigh-made, weigh-gave}
use Rattle.ff_mdf_tasks.specs.Schedulers.{MdfState, IsRight, mdf_does}
use Rattle.ff_mdf_tasks.proofs.SchedulerSteps.{NoneReady-all}

module _ (s : MdfState) (right : IsRight s) where
  -- as many numbers as were given
  pub length-numbers : length (numbers s.events) ≡ s.next
  length-numbers = omega (
    arith,
    weigh-one (numbers s.events),
    right.numbered.by (λ _. 1),
    weigh-one (take s.next s.queue.order),
    length-take s.next s.queue.order,
    right.within,
  )

  pub IsIdle-all : s.out ≡ 0 → s.next ≡ length s.queue.order → IsIdle (made_by mdf_does s) s.events
  IsIdle-all none all = (
    NoneReady-all s right (omega (arith, all)),
    Within-back (backs s.events) (numbers s.events) right.balance (omega (arith, length-numbers, right.counted, none)),
  )

  module _ (idle : IsIdle (made_by mdf_does s) s.events) where
    pub next-idle : s.next ≡ length s.queue.order
    next-idle = omega (
      arith,
      idle.0.by (λ _. 1),
      weigh-made s right (λ _. 1),
      weigh-gave s right (λ _. 1),
      weigh-one s.queue.order,
      weigh-one (take s.next s.queue.order),
      length-take s.next s.queue.order,
      right.within,
    )

    pub out-idle : s.out ≡ 0
    out-idle = omega (
      arith,
      length-numbers,
      right.counted,
      idle.1.by (λ _. 1),
      right.balance.by (λ _. 1),
      weigh-one (numbers s.events),
      weigh-one (backs s.events),
    )
