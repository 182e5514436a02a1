-- The unit that gave its reject made a step of its own.
use Rattle.std.proofs.Common.{◌≡◌, ◌≤◌, length, sym, refl, subst, arith}
use Rattle.ff_steps.specs.Core.{CoreState, IsSound}
use Rattle.ff_steps.specs.Seen.{core_of}
use Rattle.ff_steps.proofs.CoreSteps.{core_of-units}
use Rattle.ff_steps.proofs.Handed.{IsSound-hands, made-hands, length-hands}
use Rattle.ff_steps.proofs.net_core.Core.take_reject.Goals as goal

pub returns-clause-others : goal.returns-clause-others
returns-clause-others g c =
    let i = c.self.inside in
    let b = g.U.Unit.does in
    let old : CoreState g.row.U.Denot = core_of b i.rows.items i.edges.items i.units.items i.feeder i.drainer in
    let new = c.take_reject.new.units.items in
    subst (λ (x : CoreState g.row.U.Denot). core_of b i.rows.items i.edges.items new i.feeder i.drainer ≡ record x { units = new }) c.self.view_is
    (core_of-units b i.rows.items i.edges.items i.units.items new i.feeder i.drainer
    (made-hands b g.met.U.Unit.sound i.units.items c.take_reject.result new old refl c.take_reject.ensures))

pub invariant_of-self : goal.invariant_of-self
invariant_of-self g c =
    let i = c.self.inside in
    let b = g.U.Unit.does in
    let old : CoreState g.row.U.Denot = core_of b i.rows.items i.edges.items i.units.items i.feeder i.drainer in
    let new = c.take_reject.new.units.items in
    let few : length new ≤ 65536 = omega (arith, length-hands b g.met.U.Unit.sound i.units.items c.take_reject.result new c.take_reject.ensures, c.self.invariant.0) in (
      few,
      subst (IsSound b) (sym (core_of-units b i.rows.items i.edges.items i.units.items new i.feeder i.drainer
          (made-hands b g.met.U.Unit.sound i.units.items c.take_reject.result new old refl c.take_reject.ensures)))
          (IsSound-hands b g.met.U.Unit.sound old c.take_reject.result new c.take_reject.ensures c.self.invariant.1),
    )

pub returns-clause-sound : goal.returns-clause-sound
returns-clause-sound g c = (invariant_of-self g c).1
