-- So many workers were added.
use Rattle.std.proofs.Common.{◌≡◌, [], ◌∷◌, ◌++◌}
use Rattle.ff_net.specs.Tree.{tree_of}
use Rattle.ff_steps.specs.PlanUnits.{worker_unit, times}
use Rattle.ff_steps.proofs.wraps.add_workers.Given as goal

abbrev pub invariant-loop : goal.invariant-loop
invariant-loop g l = l.units.items ≡ l.initial.units.items ++ times l.counter (worker_unit g.N.Node.does l.making.keep (tree_of l.net) ∷ [])
