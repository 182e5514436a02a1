-- Numbers in a queue, each once.
use Rattle.std.specs.Prelude.{◌≡◌, ℕ, ◌<◌, ◌≤◌, ◌*◌, ◌/◌, Bool, true, false, ◌==◌, if◌then◌else◌, List, [], ◌∷◌, ◌++◌, length, slice_index_or, slice_get, Some}
use Rattle.std.specs.List.{AllByRecursion}
use Rattle.ff_rec.specs.Weights.{weigh}
use Rattle.ff_prog.specs.Links.{links_at}
use Rattle.ff_prog.specs.declared.statement.Statement.{Statement}
use Rattle.ff_mdf_tasks.specs.ByLinks.{Answers, ready_linked}
use Rattle.ff_mdf_tasks.specs.Sources.{source}

-- how often a number stands in a list
abbrev pub occurs : ℕ → List ℕ → ℕ
occurs k xs = weigh (λ x. if k == x then 1 else 0) xs

-- the numbers in their order, each below a size
pub record QueueState : Type 0 where
  pub order : List ℕ
  pub size : ℕ

-- the marked numbers stand in the order once, and no others
pub record AreMarked (has : List Bool) (order : List ℕ) : Type 0 where
  pub by : (k : ℕ) → occurs k order ≡ (if slice_index_or has k false then 1 else 0)

-- a number is added at the end, where it isn't there yet
abbrev pub queue_added : ℕ → QueueState → QueueState
queue_added k q = if occurs k q.order == 0 then record q { order = q.order ++ k ∷ [] } else q

-- what passes a test was added at the end, none of it twice
pub record Adds (test : ℕ → Bool) (old new : List ℕ) : Type 0 where
  pub more : List ℕ
  pub is : new ≡ old ++ more
  pub pass : AllByRecursion (λ k. test k ≡ true) more
  pub once : (k : ℕ) → occurs k old ≤ 1 → occurs k new ≤ 1

-- whether statement `k` is ready by the answers that are known
abbrev pub ready_by : List Statement → Answers → ℕ → Bool
ready_by ss known k = ready_linked known (slice_get ss k) (links_at ss k)

-- statement `k` is in the queue where it is ready
pub record QueuesReady (ss : List Statement) (known : Answers) (k : ℕ) (old new : QueueState) : Type 0 where
  pub size : new.size ≡ old.size
  pub adds : Adds (ready_by ss known) old.order new.order
  pub there : ready_by ss known k ≡ true → 0 < occurs k new.order

-- among the first `m` statements, just those that are ready are in the queue
pub record QueuesUntil (ss : List Statement) (known : Answers) (m : ℕ) (q : QueueState) : Type 0 where
  pub size : q.size ≡ length ss
  pub adds : Adds (ready_by ss known) [] q.order
  pub all : (k : ℕ) → k < m → ready_by ss known k ≡ true → 0 < occurs k q.order

-- what is ready and reads from statement `id` is in the queue
pub record Wakes (ss : List Statement) (known : Answers) (id : ℕ) (old new : QueueState) : Type 0 where
  pub size : new.size ≡ old.size
  pub adds : Adds (ready_by ss known) old.order new.order
  pub all : (t : ℕ) → t < 3 * length ss → source ss t ≡ Some id → ready_by ss known (t / 3) ≡ true → 0 < occurs (t / 3) new.order
