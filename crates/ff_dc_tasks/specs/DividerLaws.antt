-- The tasks of a division are a scheduler's.
use Rattle.std.proofs.Common.{◌++◌, map, arith}
use Rattle.ff_rec.proofs.WeightLaws.{weigh-append}
use Rattle.ff_loop.specs.Events.{given}
use Rattle.ff_loop.specs.Scheduling.{IsScheduling}
use Rattle.ff_dc_tasks.specs.Walks.{to_come}
use Rattle.ff_dc_tasks.specs.Pairs.{task_of}
use Rattle.ff_dc_tasks.specs.Dividers.{divider_does}

pub IsScheduling-divider : IsScheduling divider_does
IsScheduling-divider = record {
  keeps_given = λ s right. record {
    by = λ h. omega (
      arith,
      right.tasks.by h,
      weigh-append h (given s.events ++ to_come s.rule s.walk) (map task_of s.ready),
      weigh-append h (given s.events) (to_come s.rule s.walk),
    );
  };
  keeps_numbers = λ s right. right.balance;
}
