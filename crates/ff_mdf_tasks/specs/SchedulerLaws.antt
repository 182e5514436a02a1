-- The laws of the scheduler of a program.
use Rattle.std.proofs.Common.{◌≡◌, ℕ, length, take, ap, sym, ◌∙◌, arith}
use Rattle.ff_rec.specs.Weights.{weigh}
use Rattle.ff_rec.proofs.WeightLaws.{weigh-map}
use Rattle.ff_loop.specs.Events.{given}
use Rattle.ff_loop.specs.Scheduling.{IsScheduling}
use Rattle.ff_mdf_tasks.specs.declared.task.MdfTask.{MdfTask}
use Rattle.ff_mdf_tasks.specs.Occurrences.{Same-ready_until, weigh-take-le}
use Rattle.ff_mdf_tasks.specs.Schedulers.{MdfState, IsRight, mdf_does}
use Rattle.ff_mdf_tasks.specs.Tasks.{came_back, program_made, ready_until, task_at}

module _ (s : MdfState) (right : IsRight s) (h : MdfTask → ℕ) where
  -- what a statement weighs as its task
  abbrev pub weight : ℕ → ℕ
  weight k = h (task_at s.program (came_back s.events) k)

  -- the tasks are those of the statements in the queue
  pub weigh-made : weigh h (program_made s.program s.events) ≡ weigh weight s.queue.order
  weigh-made =
      weigh-map h (task_at s.program (came_back s.events)) (ready_until s.program (came_back s.events) (length s.program))
      ∙ sym ((Same-ready_until s.program (came_back s.events) s.queue.order right.queued).by weight)

  -- and those that were given are its first
  pub weigh-gave : weigh h (given s.events) ≡ weigh weight (take s.next s.queue.order)
  weigh-gave = ap (weigh h) right.gave ∙ weigh-map h (task_at s.program (came_back s.events)) (take s.next s.queue.order)

pub IsScheduling-mdf : IsScheduling mdf_does
IsScheduling-mdf = record {
  keeps_given = λ s right. record {
    by = λ h. omega (arith, weigh-made s right h, weigh-gave s right h, weigh-take-le (weight s right h) s.next s.queue.order);
  };
  keeps_numbers = λ s right. right.balance;
}
