-- The list of tasks of a wrap is a scheduler.
use Rattle.std.proofs.Common.{◌≡◌, ℕ, ◌<◌, ◌≤◌, nat_le, Bool, true, false, List, ◌++◌, length, sym, subst, ◌∙◌, arith, le-leb}
use Rattle.std.proofs.lemmas.Bool.{cond-true, cond-false, lt-leb}
use Rattle.ff_rec.proofs.WeightLaws.{weigh-append}
use Rattle.ff_net.specs.declared.net.Test.{Test}
use Rattle.ff_net.specs.Logs.{Within}
use Rattle.ff_loop.specs.Events.{given}
use Rattle.ff_loop.specs.Scheduling.{IsScheduling}
use Rattle.ff_loop.specs.Worklists.{WorkEvent, WorkState, came, work_made, IsWithin, Holds, work_does}

-- within the limit the tasks are those that came, and past it those that were given
pub work_made-few : (p : Test) (m : ℕ) (log : List WorkEvent) → length (came p log) ≤ m → work_made p m log ≡ came p log
work_made-few p m log few = cond-true (nat_le (length (came p log)) m) (came p log) (given log) (le-leb _ _ few)

pub work_made-many : (p : Test) (m : ℕ) (log : List WorkEvent) → m < length (came p log) → work_made p m log ≡ given log
work_made-many p m log many = cond-false (nat_le (length (came p log)) m) (came p log) (given log) (lt-leb _ _ many)

-- a list of tasks within its limit has all tasks that came
pub work_made-within : (w : WorkState) → IsWithin w → work_made w.test w.limit w.events ≡ given w.events ++ w.next
work_made-within w within = work_made-few w.test w.limit w.events (omega (arith, within.room)) ∙ sym within.tasks

given-within : (b : Bool) (w : WorkState) → Holds b w → Within (given w.events) (work_made w.test w.limit w.events)
given-within false w within = subst (Within (given w.events)) (sym (work_made-within w within)) (record { by = λ h. omega (arith, weigh-append h (given w.events) w.next) })
given-within true w past = subst (Within (given w.events)) (sym (work_made-many w.test w.limit w.events past.over)) (record { by = λ h. omega arith })

pub IsScheduling-work : IsScheduling work_does
IsScheduling-work = record {
  keeps_given = λ w right. given-within w.over w right.holds;
  keeps_numbers = λ w right. right.balance;
}
