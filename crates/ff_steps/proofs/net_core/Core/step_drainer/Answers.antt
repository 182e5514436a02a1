-- The drainer's step is a step of the core.
use Rattle.std.proofs.Common.{◌≡◌, ◌<◌, ◌+◌, suc, length, subst, arith}
use Rattle.ff_steps.specs.Core.{CoreState, parties}
use Rattle.ff_steps.specs.Events.{CoreStep}
use Rattle.ff_steps.specs.Seen.{core_of}
use Rattle.ff_steps.proofs.CoreSteps.{some-edges, CoreStep-drainer}
use Rattle.ff_steps.proofs.PartyAt.{length-parties}
use Rattle.ff_steps.proofs.SoundStep.{IsSound-step}
use Rattle.ff_steps.proofs.net_core.Core.step_drainer.Goals as goal

pub step-requires : goal.step-requires
step-requires g c =
    let i = c.self.inside in
    omega (arith, (some-edges g.U.Unit.does i.rows.items i.edges.items i.units.items i.feeder i.drainer c.self.invariant.1).1, i.edges.ok.0)

pub invariant_of-self : goal.invariant_of-self
invariant_of-self g c =
    let i = c.self.inside in
    let b = g.U.Unit.does in
    let old : CoreState g.row.U.Denot = core_of b i.rows.items i.edges.items i.units.items i.feeder i.drainer in
    let new : CoreState g.row.U.Denot = core_of b i.rows.items c.step.new.edges.items i.units.items i.feeder c.step.new.self in
    let step : CoreStep b (suc (length i.units.items)) old new =
    CoreStep-drainer b i.rows.items i.edges.items i.units.items i.feeder i.drainer c.self.invariant.1 c.step.new.self c.step.new.edges.items c.step.ensures.moves c.step.ensures.others in
    let within : suc (length i.units.items) < length (parties old) = omega (arith, length-parties old) in
    (c.self.invariant.0, IsSound-step b g.met.U.Unit.sound (suc (length i.units.items)) old new within c.self.invariant.1 step)

pub returns-clause-step : goal.returns-clause-step
returns-clause-step g c =
    let i = c.self.inside in
    let b = g.U.Unit.does in
    let new : CoreState g.row.U.Denot = core_of b i.rows.items c.step.new.edges.items i.units.items i.feeder c.step.new.self in
    let old : CoreState g.row.U.Denot = core_of b i.rows.items i.edges.items i.units.items i.feeder i.drainer in
    let next : suc (length i.units.items) ≡ length i.units.items + 1 = omega arith in
    subst (λ (x : CoreState g.row.U.Denot). CoreStep b (length x.units + 1) x new) c.self.view_is
    (subst (λ n. CoreStep b n old new) next
    (CoreStep-drainer b i.rows.items i.edges.items i.units.items i.feeder i.drainer c.self.invariant.1 c.step.new.self c.step.new.edges.items c.step.ensures.moves c.step.ensures.others))

pub returns-clause-sound : goal.returns-clause-sound
returns-clause-sound g c = (invariant_of-self g c).1
