use Rattle.std.proofs.Common.{◌≡◌, length, map, take}
use Rattle.ff_mdf.specs.Orders.{by_backs}
use Rattle.ff_mdf.specs.Stores.{valued}
use Rattle.ff_mdf_tasks.specs.Tasks.{came_back}
use Rattle.ff_mdf_tasks.proofs.scheduler.MdfScheduler.store.Given as goal

-- the entries of the names so far
abbrev pub invariant-loop-k : goal.invariant-loop-k
invariant-loop-k l = l.store ≡ map (valued (by_backs l.self.program (came_back l.self.events) (length l.self.program))) (take l.k l.names)
