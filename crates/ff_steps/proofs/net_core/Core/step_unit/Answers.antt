-- The unit has its run at its edges, and its step is a step of the core.
use Rattle.std.proofs.Common.{◌<◌, ◌≤◌, length, sym, subst, arith}
use Rattle.ff_steps.specs.Core.{CoreState, parties}
use Rattle.ff_steps.specs.Events.{CoreStep}
use Rattle.ff_steps.specs.Seen.{core_of}
use Rattle.ff_steps.proofs.CoreSteps.{length-rows, IsPortRow-unit, ran-unit, CoreStep-unit}
use Rattle.ff_steps.proofs.PartyAt.{length-parties}
use Rattle.ff_steps.proofs.SoundStep.{IsSound-step}
use Rattle.ff_steps.proofs.net_core.Core.step_unit.Goals as goal

pub step_unit-requires-clause-row_within : goal.step_unit-requires-clause-row_within
step_unit-requires-clause-row_within g c =
    let i = c.self.inside in
    let low : c.args.p < length i.units.items = subst (λ (x : CoreState g.row.U.Denot). c.args.p < length x.units) (sym c.self.view_is) c.requires in
    omega (arith, low, length-rows g.U.Unit.does i.rows.items i.edges.items i.units.items i.feeder i.drainer c.self.invariant.1)

pub step_unit-requires-clause-wired : goal.step_unit-requires-clause-wired
step_unit-requires-clause-wired g c =
    let i = c.self.inside in
    let low : c.args.p < length i.units.items = subst (λ (x : CoreState g.row.U.Denot). c.args.p < length x.units) (sym c.self.view_is) c.requires in
    IsPortRow-unit g.U.Unit.does i.rows.items i.edges.items i.units.items i.feeder i.drainer c.self.invariant.1 c.args.p low

pub step_unit-requires-clause-ran : goal.step_unit-requires-clause-ran
step_unit-requires-clause-ran g c =
    let i = c.self.inside in
    let low : c.args.p < length i.units.items = subst (λ (x : CoreState g.row.U.Denot). c.args.p < length x.units) (sym c.self.view_is) c.requires in
    λ u is. ran-unit g.U.Unit.does i.rows.items i.edges.items i.units.items i.feeder i.drainer c.self.invariant.1 c.args.p low u is

pub invariant_of-self : goal.invariant_of-self
invariant_of-self g c =
    let i = c.self.inside in
    let b = g.U.Unit.does in
    let low : c.args.p < length i.units.items = subst (λ (x : CoreState g.row.U.Denot). c.args.p < length x.units) (sym c.self.view_is) c.requires in
    let old : CoreState g.row.U.Denot = core_of b i.rows.items i.edges.items i.units.items i.feeder i.drainer in
    let new : CoreState g.row.U.Denot = core_of b i.rows.items c.step_unit.new.edges.items c.step_unit.new.units.items i.feeder i.drainer in
    let step : CoreStep b c.args.p old new =
    CoreStep-unit b i.rows.items i.edges.items i.units.items i.feeder i.drainer c.self.invariant.1 g.met.U.Unit.sound c.args.p c.step_unit.new.units.items c.step_unit.new.edges.items low c.step_unit.ensures in
    let within : c.args.p < length (parties old) = omega (arith, low, length-parties old) in
    let few : length c.step_unit.new.units.items ≤ 65536 = omega (arith, step.number, c.self.invariant.0) in
    (few, IsSound-step b g.met.U.Unit.sound c.args.p old new within c.self.invariant.1 step)

pub returns-clause-step : goal.returns-clause-step
returns-clause-step g c =
    let i = c.self.inside in
    let b = g.U.Unit.does in
    let low : c.args.p < length i.units.items = subst (λ (x : CoreState g.row.U.Denot). c.args.p < length x.units) (sym c.self.view_is) c.requires in
    subst (λ (x : CoreState g.row.U.Denot). CoreStep b c.args.p x (core_of b i.rows.items c.step_unit.new.edges.items c.step_unit.new.units.items i.feeder i.drainer)) c.self.view_is
    (CoreStep-unit b i.rows.items i.edges.items i.units.items i.feeder i.drainer c.self.invariant.1 g.met.U.Unit.sound c.args.p c.step_unit.new.units.items c.step_unit.new.edges.items low c.step_unit.ensures)

pub returns-clause-sound : goal.returns-clause-sound
returns-clause-sound g c = (invariant_of-self g c).1
