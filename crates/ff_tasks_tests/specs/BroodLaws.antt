-- A brood is a scheduler.
use Rattle.std.proofs.Common.{arith}
use Rattle.ff_loop.specs.Scheduling.{IsScheduling}
use Rattle.ff_tasks_tests.specs.Broods.{brood_does}

pub IsScheduling-brood : IsScheduling brood_does
IsScheduling-brood = record {
  keeps_given = λ b right. record { by = λ h. omega (arith, right.tasks h) };
  keeps_numbers = λ b right. right.balance;
}
