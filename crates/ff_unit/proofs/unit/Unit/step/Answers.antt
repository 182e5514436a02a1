use Rattle.std.proofs.Common.{subst}
use Rattle.ff_unit.specs.Units.{EndedOnly}
use Rattle.ff_unit.proofs.UnitRuns.{Ran-one, One-over, taken-one, told-one, short-one}
use Rattle.ff_unit.proofs.unit.Unit.step.Goals as goal

pub returns-clause-one : goal.returns-clause-one
returns-clause-one g c =
    One-over g.Self.Unit.does g.P.Ports.grows c.args.self.now (g.P.Ports.gots c.args.ports.now) (g.P.Ports.puts c.args.ports.now) c.step_once.result
    c.step_once.new.self (g.P.Ports.gots c.step_once.new.ports) (g.P.Ports.puts c.step_once.new.ports) c.step_once.ensures.once.one

-- the run goes on with this step
pub returns-clause-ran : goal.returns-clause-ran
returns-clause-ran g c =
    Ran-one g.Self.Unit.does g.met.Self.Unit.sound c.args.self.now (g.P.Ports.gots c.args.ports.now) (g.P.Ports.puts c.args.ports.now) c.step_once.result
    c.step_once.new.self (g.P.Ports.gots c.step_once.new.ports) (g.P.Ports.puts c.step_once.new.ports) (returns-clause-one g c) c.requires

pub returns-clause-start : goal.returns-clause-start
returns-clause-start g c =
    let one = c.step_once.ensures.once.one in g.met.Self.Unit.sound.opening_kept c.args.self.now one.act c.step_once.new.self one.steps

pub returns-clause-taken : goal.returns-clause-taken
returns-clause-taken g c =
    taken-one g.Self.Unit.does g.met.Self.Unit.sound c.args.self.now (g.P.Ports.gots c.args.ports.now) (g.P.Ports.puts c.args.ports.now) c.step_once.result
    c.step_once.new.self (g.P.Ports.gots c.step_once.new.ports) (g.P.Ports.puts c.step_once.new.ports) (returns-clause-one g c)

pub returns-clause-told : goal.returns-clause-told
returns-clause-told g c =
    told-one g.Self.Unit.does g.met.Self.Unit.sound c.args.self.now (g.P.Ports.gots c.args.ports.now) (g.P.Ports.puts c.args.ports.now) c.step_once.result
    c.step_once.new.self (g.P.Ports.gots c.step_once.new.ports) (g.P.Ports.puts c.step_once.new.ports) (returns-clause-one g c)

pub returns-clause-begins : goal.returns-clause-begins
returns-clause-begins g c =
    g.met.Self.Unit.sound.begins c.step_once.new.self (g.P.Ports.gots c.step_once.new.ports) (g.P.Ports.puts c.step_once.new.ports) (returns-clause-ran g c)

pub returns-clause-fits : goal.returns-clause-fits
returns-clause-fits g c = λ e.
    let ended = subst (λ answer. EndedOnly g.Self.Unit.does c.args.self.now answer c.step_once.new.self (g.P.Ports.waiting c.step_once.new.ports)) e c.step_once.ensures.once.ended in
    g.met.Self.Unit.sound.whole c.step_once.new.self (g.P.Ports.gots c.step_once.new.ports) (g.P.Ports.puts c.step_once.new.ports) (returns-clause-ran g c) ended.0 ended.1

pub returns-clause-rejects : goal.returns-clause-rejects
returns-clause-rejects g c = λ e.
    let ended = subst (λ answer. EndedOnly g.Self.Unit.does c.args.self.now answer c.step_once.new.self (g.P.Ports.waiting c.step_once.new.ports)) e c.step_once.ensures.once.ended in
    g.met.Self.Unit.sound.rejects_are c.step_once.new.self (g.P.Ports.gots c.step_once.new.ports) (g.P.Ports.puts c.step_once.new.ports) (returns-clause-ran g c) ended.0 ended.1

pub returns-clause-aborts : goal.returns-clause-aborts
returns-clause-aborts g c = λ e.
    let ended = subst (λ answer. EndedOnly g.Self.Unit.does c.args.self.now answer c.step_once.new.self (g.P.Ports.waiting c.step_once.new.ports)) e c.step_once.ensures.once.ended in
    g.met.Self.Unit.sound.causes c.step_once.new.self (g.P.Ports.gots c.step_once.new.ports) (g.P.Ports.puts c.step_once.new.ports) (returns-clause-ran g c) ended.1

pub returns-clause-memory : goal.returns-clause-memory
returns-clause-memory g c = λ e.
    let ended = subst (λ answer. EndedOnly g.Self.Unit.does c.args.self.now answer c.step_once.new.self (g.P.Ports.waiting c.step_once.new.ports)) e c.step_once.ensures.once.ended in
    g.met.Self.Unit.sound.short_ends c.step_once.new.self ended.1

pub returns-clause-short : goal.returns-clause-short
returns-clause-short g c =
    let once = c.step_once.ensures.once in
    short-one g.Self.Unit.does g.met.Self.Unit.sound g.P.Ports.grows c.args.self.now (g.P.Ports.gots c.args.ports.now) (g.P.Ports.puts c.args.ports.now) c.step_once.result
    c.step_once.new.self (g.P.Ports.gots c.step_once.new.ports) (g.P.Ports.puts c.step_once.new.ports) once.one
