-- Each of those before it has a task.
use Rattle.std.proofs.Common.{◌<◌, ◌≤◌, ℕ}
use Rattle.ff_unit.specs.Closing.{IsLive}
use Rattle.ff_loop.proofs.wrap_master.next.free_worker.Given as goal

abbrev pub invariant-loop-k : goal.invariant-loop-k
invariant-loop-k l = (j : ℕ) → 1 ≤ j → j < l.k → IsLive l.live j
