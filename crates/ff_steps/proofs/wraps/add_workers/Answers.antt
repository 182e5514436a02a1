-- One worker more.
use Rattle.std.proofs.Common.{[], ◌∷◌}
use Rattle.ff_net.specs.Tree.{tree_of}
use Rattle.ff_steps.specs.PlanUnits.{worker_unit}
use Rattle.ff_steps.proofs.Times.{times-push}
use Rattle.ff_steps.proofs.wraps.add_workers.Goals as goal

pub loop-preserved : goal.loop-preserved
loop-preserved g c =
    times-push c.args.units.now.items c.loop.counter (worker_unit g.N.Node.does c.args.making.keep (tree_of c.args.net.now) ∷ []) c.loop.units.items c.add_worker.new.units.items
    c.loop.invariant c.in_ok-add_worker.ensures
