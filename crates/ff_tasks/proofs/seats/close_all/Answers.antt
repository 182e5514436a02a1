-- One round more.
use Rattle.ff_tasks.proofs.Ends.{AllOutlive-refl, AllOutlive-trans}
use Rattle.ff_tasks.proofs.seats.close_all.Goals as goal

pub loop-init : goal.loop-init
loop-init g c = AllOutlive-refl c.args.seats.now.items

pub loop-preserved : goal.loop-preserved
loop-preserved g c = AllOutlive-trans c.args.seats.now.items c.loop.seats.items c.close_each.new.seats.items c.loop.invariant c.close_each.ensures

pub returns-then-close_each : goal.returns-then-close_each
returns-then-close_each g c = AllOutlive-trans c.args.seats.now.items c.loop.seats.items c.close_each.new.seats.items c.loop.invariant c.close_each.ensures
