-- Of the workers so far, the one with the fewest tasks.
use Rattle.std.proofs.Common.{◌≡◌, ℕ, Option, None, Some}
use Rattle.ff_loop.specs.Masters.{MasterState}
use Rattle.ff_tasks.specs.Serving.{IsFreest, owed}
use Rattle.ff_tasks.proofs.serving.freest.Given as goal

-- how many tasks it has, or how many a worker may have where none is left
abbrev pub IsFewest : {T A S : Type 0} → ℕ → MasterState T A S → Option ℕ → ℕ → Type 0
IsFewest cap m None fewest = fewest ≡ cap
IsFewest cap m (Some w) fewest = fewest ≡ owed w m

abbrev pub invariant-loop-w : goal.invariant-loop-w
invariant-loop-w g l = record {
  freest : IsFreest l.cap l.w l.master l.best;
  fewest : IsFewest l.cap l.master l.best l.fewest;
}
