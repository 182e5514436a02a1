-- What an open feeder put is open, and its step is a step of the core.
use Rattle.std.proofs.Common.{◌<◌, length, subst, arith}
use Rattle.ff_steps.specs.Core.{CoreState, parties}
use Rattle.ff_steps.specs.Events.{CoreStep}
use Rattle.ff_steps.specs.Links.{edge_at}
use Rattle.ff_port.specs.Queues.{put_of}
use Rattle.ff_steps.specs.Moves.{feeder_of}
use Rattle.ff_steps.specs.Seen.{core_of}
use Rattle.ff_steps.proofs.CoreSteps.{some-edges, ran-feeder, CoreStep-feeder}
use Rattle.ff_steps.proofs.FeederRuns.{IsOpen-feeder}
use Rattle.ff_steps.proofs.PartyAt.{length-parties}
use Rattle.ff_steps.proofs.SoundStep.{IsSound-step}
use Rattle.ff_steps.proofs.net_core.Core.step_feeder.Goals as goal

pub step-requires-clause-some : goal.step-requires-clause-some
step-requires-clause-some g c =
    let i = c.self.inside in
    omega (arith, (some-edges g.U.Unit.does i.rows.items i.edges.items i.units.items i.feeder i.drainer c.self.invariant.1).0, i.edges.ok.0)

pub step-requires-clause-inner : goal.step-requires-clause-inner
step-requires-clause-inner g c =
    let i = c.self.inside in
    IsOpen-feeder i.feeder.input (feeder_of i.feeder) (put_of (edge_at i.edges.items 0))
    (ran-feeder g.U.Unit.does i.rows.items i.edges.items i.units.items i.feeder i.drainer c.self.invariant.1)

pub invariant_of-self : goal.invariant_of-self
invariant_of-self g c =
    let i = c.self.inside in
    let b = g.U.Unit.does in
    let old : CoreState g.row.U.Denot = core_of b i.rows.items i.edges.items i.units.items i.feeder i.drainer in
    let new : CoreState g.row.U.Denot = core_of b i.rows.items c.step.new.edges.items i.units.items c.step.new.self i.drainer in
    let step : CoreStep b (length i.units.items) old new =
    CoreStep-feeder b i.rows.items i.edges.items i.units.items i.feeder i.drainer c.self.invariant.1 c.step.new.self c.step.new.edges.items c.step.ensures.input c.step.ensures.moves c.step.ensures.others in
    let within : length i.units.items < length (parties old) = omega (arith, length-parties old) in
    (c.self.invariant.0, IsSound-step b g.met.U.Unit.sound (length i.units.items) old new within c.self.invariant.1 step)

pub returns-clause-step : goal.returns-clause-step
returns-clause-step g c =
    let i = c.self.inside in
    let b = g.U.Unit.does in
    subst (λ (x : CoreState g.row.U.Denot). CoreStep b (length x.units) x (core_of b i.rows.items c.step.new.edges.items i.units.items c.step.new.self i.drainer)) c.self.view_is
    (CoreStep-feeder b i.rows.items i.edges.items i.units.items i.feeder i.drainer c.self.invariant.1 c.step.new.self c.step.new.edges.items c.step.ensures.input c.step.ensures.moves c.step.ensures.others)

pub returns-clause-sound : goal.returns-clause-sound
returns-clause-sound g c = (invariant_of-self g c).1
