-- One merge more.
use Rattle.std.proofs.Common.{[], ◌∷◌, ◌++◌, ap, ◌∙◌}
use Rattle.ff_steps.specs.NetUnits.{NetState, AsMerge}
use Rattle.ff_steps.proofs.Times.{times-push}
use Rattle.ff_unit.specs.Merges.{opened_merge}
use Rattle.ff_steps.proofs.middle.add_merges.Goals as goal

pub loop-preserved : goal.loop-preserved
loop-preserved g c =
    times-push c.args.units.now.items c.loop.counter (AsMerge (opened_merge c.args.ins) ∷ []) c.loop.units.items c.push.new.self.items c.loop.invariant
    (c.in_ok-push.ensures.items ∙ ap (λ (u : NetState g.row.N.Denot). c.loop.units.items ++ u ∷ []) (c.of_merge.ensures ∙ ap AsMerge c.new.ensures.opened))
