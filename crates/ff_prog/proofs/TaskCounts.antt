-- The tasks so far, none of them one too many.
use Rattle.std.proofs.Common.{◌≡◌, ◌<◌, ◌≤◌, ◌+◌, ◌-◌, ℕ, suc, true, false, ◌&&◌, List, length, sym, ap, ◌∙◌, arith}
use Rattle.std.proofs.Math.Bool.{and-false}
use Rattle.std.proofs.lemmas.Bool.{cond-true, cond-false, lt-leb}
use Rattle.std.specs.Prelude.{slice_get, nat_le}
use Rattle.ff_prog.specs.declared.statement.Statement.{Statement}
use Rattle.ff_prog.specs.Rules.{first_at, first_from, is_past_most, is_task, tasks_until}
use Rattle.ff_prog.proofs.Firsts.{first-next}

-- what holds before statement `k`
pub record CountsTasks (ss : List Statement) (k tasks : ℕ) : Type 0 where
  pub same : first_at is_past_most ss ≡ first_from (is_past_most ss) k (length ss - k)
  pub counted : tasks ≡ tasks_until ss k
  pub few : tasks ≤ k

-- behind a statement that is no task
pub CountsTasks-other : (ss : List Statement) (k tasks : ℕ) → k < length ss → CountsTasks ss k tasks → is_task (slice_get ss k) ≡ false → CountsTasks ss (k + 1) tasks
CountsTasks-other ss k tasks below h other =
    let next : suc k ≡ k + 1 = omega arith in
    record {
      same = h.same ∙ first-next (is_past_most ss) k (length ss) below (ap (λ b. b && nat_le 4096 (tasks_until ss k)) other);
      counted = h.counted ∙ sym (cond-false (is_task (slice_get ss k)) (tasks_until ss k + 1) (tasks_until ss k) other) ∙ ap (tasks_until ss) next;
      few = let few = h.few in omega arith;
    }

-- behind a task that isn't one too many
pub CountsTasks-task : (ss : List Statement) (k tasks : ℕ) → k < length ss → CountsTasks ss k tasks → is_task (slice_get ss k) ≡ true → tasks < 4096 → CountsTasks ss (k + 1) (tasks + 1)
CountsTasks-task ss k tasks below h task small =
    let next : suc k ≡ k + 1 = omega arith in
    let less : tasks_until ss k < 4096 = rw (sym h.counted) small in
    record {
      same = h.same ∙ first-next (is_past_most ss) k (length ss) below (ap (λ b. is_task (slice_get ss k) && b) (lt-leb 4096 (tasks_until ss k) less) ∙ and-false (is_task (slice_get ss k)));
      counted = ap (λ n. n + 1) h.counted ∙ sym (cond-true (is_task (slice_get ss k)) (tasks_until ss k + 1) (tasks_until ss k) task) ∙ ap (tasks_until ss) next;
      few = let few = h.few in omega arith;
    }
