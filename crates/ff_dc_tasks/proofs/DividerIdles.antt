-- The scheduler of a division is idle where nothing is held and nothing is out.
use Rattle.std.proofs.Common.{◌≡◌, [], arith}
use Rattle.std.proofs.lemmas.List.{nil_from_length}
use Rattle.ff_rec.proofs.WeightLaws.{weigh-one, weigh-map}
use Rattle.ff_loop.specs.Events.{numbers, backs, IsIdle}
use Rattle.ff_loop.specs.Scheduling.{made_by}
use Rattle.ff_loop.proofs.Fewer.{Within-back}
use Rattle.ff_dc_tasks.specs.Pairs.{task_of}
use Rattle.ff_dc_tasks.specs.Dividers.{DividerState, whole_of, IsRight, divider_does}
use Rattle.ff_dc_tasks.proofs.DividerWeights.{todo-none, weigh-made}
use Rattle.ff_dc_tasks.proofs.GivenSteps.{NoneReady-none}

-- no task is ready, and none is out
pub IsIdle-none : (s : DividerState) → IsRight s → s.out ≡ 0 → s.ready ≡ [] → s.walk.todo ≡ [] → IsIdle (made_by divider_does s) s.events
IsIdle-none s right none_out no_pair no_part =
    (NoneReady-none s right no_pair no_part, Within-back (backs s.events) (numbers s.events) right.balance (omega (arith, right.out_is, none_out)))

module _ (s : DividerState) (right : IsRight s) (idle : IsIdle (made_by divider_does s) s.events) where
  pub out-idle : s.out ≡ 0
  out-idle = omega (arith, right.out_is, idle.1.by (λ _. 1), weigh-one (backs s.events), weigh-one (numbers s.events))

  pub ready-idle : s.ready ≡ []
  ready-idle = nil_from_length s.ready (omega (
    arith,
    idle.0.by (λ _. 1),
    weigh-made s right (λ _. 1),
    weigh-map (λ _. 1) task_of s.ready,
    weigh-one s.ready,
  ))

  pub todo-idle : s.walk.todo ≡ []
  todo-idle = todo-none s.rule s.walk.cut (whole_of s) right.walk.room s.walk.number s.walk.todo right.walk.proper right.walk.low right.walk.stands
      (omega (arith, idle.0.by (λ _. 1), weigh-made s right (λ _. 1)))
