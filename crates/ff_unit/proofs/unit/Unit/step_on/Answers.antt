use Rattle.std.proofs.Common.{◌∙◌, ◌<◌, arith}
use Rattle.ff_port.specs.declared.answers.Step.TheVariants.{Moved}
use Rattle.ff_unit.proofs.Through.{Ran-through, MovesSome-through, StepsOn-number, link-through, short-through, asks-through}
use Rattle.ff_unit.proofs.UnitRuns.{short-then}
use Rattle.ff_unit.proofs.unit.Unit.step_on.Goals as goal

-- one turn more
pub loop-k-preserved : goal.loop-k-preserved
loop-k-preserved g c =
    let d = g.Self.Unit.does in
    let laws = g.met.Self.Unit.sound in
    let u = c.loop-k.self in
    let v = c.step_through.new.self in
    let before = c.loop-k.ports in
    let after = c.step_through.new.ports in
    record {
      ran = Ran-through d g.P.Ports u before Moved v after laws c.in-Moved.ensures c.loop-k.invariant.ran;
      moved = MovesSome-through d g.P.Ports c.loop-k.k c.args.self.now c.args.ports.now u before v after c.loop-k.invariant.moved c.in-Moved.ensures;
      first = λ e. absurd (omega (arith, e));
      short = short-then d laws g.P.Ports.grows c.args.self.now u v c.loop-k.invariant.asks c.loop-k.invariant.short (short-through d g.P.Ports u before Moved v after laws c.in-Moved.ensures);
      asks = λ asks. c.loop-k.invariant.asks (asks-through d g.P.Ports u before Moved v after laws c.in-Moved.ensures asks);
      link = link-through d g.P.Ports u before Moved v after c.in-Moved.ensures ∙ c.loop-k.invariant.link;
    }

-- each turn moved it
pub returns-clause-steps : goal.returns-clause-steps
returns-clause-steps g c =
    let m = c.loop-k.invariant.moved in
    let some : 0 < m.number = omega (arith, m.enough) in
    StepsOn-number g.Self.Unit.does g.P.Ports g.met.Self.Unit.sound c.args.self.now (g.P.Ports.gots c.args.ports.now) (g.P.Ports.puts c.args.ports.now)
    c.loop-k.self (g.P.Ports.gots c.loop-k.ports) (g.P.Ports.puts c.loop-k.ports) (g.P.Ports.waiting c.loop-k.ports) m.number some m.moved
