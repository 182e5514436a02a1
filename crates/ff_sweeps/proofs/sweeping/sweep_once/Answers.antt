-- One party more stepped.
use Rattle.std.proofs.Common.{[], ◌∷◌, ◌∙◌, subst}
use Rattle.ff_net.specs.Tree.{tree_of}
use Rattle.ff_steps.specs.Events.{Follows}
use Rattle.ff_steps.specs.NetCores.{IsGood}
use Rattle.ff_steps.specs.NetUnits.{net_does}
use Rattle.ff_sweeps.proofs.Joins.{Follows-next}
use Rattle.ff_sweeps.proofs.sweeping.sweep_once.Goals as goal

pub loop-p-preserved : goal.loop-p-preserved
loop-p-preserved g c =
    let b = g.N.Node.does in
    let i = c.loop-p.invariant in
    let s = c.run_schedule-ended-in-loop-p in
    let chain : Follows (net_does b) (IsGood b c.args.core.now.limit (tree_of c.args.core.now.checked.net)) (c.loop-p.p ∷ []) c.loop-p.core.core s.new.self.core =
    subst (λ lim. Follows (net_does b) (IsGood b lim (tree_of c.args.core.now.checked.net)) (c.loop-p.p ∷ []) c.loop-p.core.core s.new.self.core) i.2
    (subst (λ ch. Follows (net_does b) (IsGood b c.loop-p.core.limit (tree_of ch.net)) (c.loop-p.p ∷ []) c.loop-p.core.core s.new.self.core) i.1 s.ensures.follows) in (
      Follows-next (net_does b) (IsGood b c.args.core.now.limit (tree_of c.args.core.now.checked.net)) c.loop-p.p c.args.core.now.core c.loop-p.core.core s.new.self.core i.0 chain,
      s.ensures.same.0 ∙ i.1,
      s.ensures.same.1 ∙ i.2,
      s.ensures.same.2 ∙ i.3,
      s.ensures.ended,
      s.ensures.input ∙ i.5,
      s.ensures.taken ∙ i.6,
    )
