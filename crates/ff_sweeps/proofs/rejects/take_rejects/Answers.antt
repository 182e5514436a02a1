-- The first reject that is held was taken out, or none is held.
use Rattle.std.proofs.Common.{◌++◌, [], ◌∷◌, length, sym, ap, ◌∙◌, arith, append_assoc, append-nil}
use Rattle.ff_steps.specs.Core.{CoreState, held_rejects}
use Rattle.ff_steps.specs.NetUnits.{NetState, net_does}
use Rattle.ff_sweeps.proofs.HeldRejects.{held-first, held-none}
use Rattle.ff_sweeps.proofs.rejects.take_rejects.Goals as goal

pub loop-r-smaller : goal.loop-r-smaller
loop-r-smaller g c =
    let d = net_does g.N.Node.does in
    let e = held-first d c.loop-r.core.core.units c.in-Some.r c.take_reject.new.self.core.units c.in-Some.ensures.handed in
    omega (arith, ap length e)

pub loop-r-preserved : goal.loop-r-preserved
loop-r-preserved g c =
    let d = net_does g.N.Node.does in
    let i = c.loop-r.invariant in
    let e = held-first d c.loop-r.core.core.units c.in-Some.r c.take_reject.new.self.core.units c.in-Some.ensures.handed in
    let rest = held_rejects d c.take_reject.new.self.core in (
      ap (λ l. l ++ rest) c.in_ok-push.ensures.ok
          ∙ append_assoc c.loop-r.kept (c.in-Some.r ∷ []) rest
          ∙ ap (λ l. c.loop-r.kept ++ l) (sym e)
          ∙ i.0,
      ap (λ (x : CoreState (NetState _)). x.drainer) c.in-Some.ensures.others ∙ i.1,
    )

pub returns-clause-kept : goal.returns-clause-kept
returns-clause-kept g c =
    let d = net_does g.N.Node.does in
    let none = held-none d c.loop-r.core.core.units c.in_default.ensures.handed.0 in
    sym (append-nil c.loop-r.kept) ∙ ap (λ l. c.loop-r.kept ++ l) (sym none) ∙ c.loop-r.invariant.0
