-- The scheduler of a program as it is made.
use Rattle.std.proofs.Common.{◌≡◌, ℕ, zero, suc, ◌-◌, ◌<◌, ◌≤◌, List, [], Option, None, length, replicate, refl, sym, ap, ◌∙◌, arith, inl, inr}
use Rattle.std.proofs.lemmas.Bool.{cases_Bool}
use Rattle.ff_prog.specs.declared.statement.Statement.{Statement}
use Rattle.ff_mdf.specs.declared.value.MdfAnswer.{MdfAnswer}
use Rattle.ff_mdf_tasks.specs.declared.readers.Readers.{Readers}
use Rattle.ff_mdf_tasks.specs.ByLinks.{answer_in}
use Rattle.ff_mdf_tasks.specs.Occurrences.{flag, occurs-fails, is_ready-within}
use Rattle.ff_mdf_tasks.specs.Queues.{occurs, QueueState, QueuesUntil, ready_by}
use Rattle.ff_mdf_tasks.specs.Schedulers.{IsOpened}
use Rattle.ff_mdf_tasks.specs.Sources.{AreReaders}
use Rattle.ff_mdf_tasks.specs.Tasks.{is_ready}
use Rattle.ff_mdf_tasks.proofs.LinkedTasks.{ready_by-is_ready}

-- no answer is back
pub answer_in-none : (n k : ℕ) → answer_in (replicate n None) k ≡ None
answer_in-none zero k = refl
answer_in-none (suc n) zero = refl
answer_in-none (suc n) (suc k) = answer_in-none n k

-- the scheduler as it is made
pub IsOpened-new : (ss : List Statement) (readers : Readers) (answers : List (Option MdfAnswer)) (q : QueueState) → AreReaders ss readers → length answers ≡ length ss
    → ((k : ℕ) → answer_in answers k ≡ None) → QueuesUntil ss (answer_in answers) (length ss) q
    → IsOpened ss (record { program = ss; readers = readers; answers = answers; queue = q; next = 0; out = 0; events = [] })
IsOpened-new ss readers answers q are many none queues = record {
  program = refl;
  events = refl;
  right = record {
    readers = are;
    many = many;
    answered = none;
    fit = tt;
    size = queues.size;
    queued = stands;
    within = omega arith;
    gave = refl;
    numbered = record { by = λ h. refl };
    balance = record { by = λ h. omega arith };
    counted = refl;
  };
}
  where
    same : (k : ℕ) → ready_by ss (answer_in answers) k ≡ is_ready ss [] k
    same k = ready_by-is_ready (answer_in answers) [] none ss k

    stands : (k : ℕ) → occurs k q.order ≡ flag (is_ready ss [] k)
    stands k = elim (cases_Bool (is_ready ss [] k)) [
      | inl e ↦
          let few : occurs k q.order ≤ 1 = queues.adds.once k (omega arith) in
          let some : 0 < occurs k q.order = queues.all k (is_ready-within ss [] k e) (same k ∙ e) in
          let one : occurs k q.order ≡ 1 = omega arith in
          one ∙ sym (ap flag e)
      | inr e ↦
          ap (occurs k) queues.adds.is
          ∙ occurs-fails (ready_by ss (answer_in answers)) k queues.adds.more queues.adds.pass (same k ∙ e)
          ∙ sym (ap flag e)
    ]
