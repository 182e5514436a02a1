-- What follows from the steps.
use Rattle.ff_unit.proofs.UnitRuns.{Ran-on, opening-on, taken-on, told-on, EndsAs-on, memory-ends}
use Rattle.ff_unit.proofs.threaded.Threaded.advance.Goals as goal

pub returns-clause-ran : goal.returns-clause-ran
returns-clause-ran g c =
    Ran-on g.Self.Unit.does g.met.Self.Unit.sound c.args.self.now (g.P.Ports.gots c.args.ports.now) (g.P.Ports.puts c.args.ports.now) c.step_many.result
    c.step_many.new.self (g.P.Ports.gots c.step_many.new.ports) (g.P.Ports.puts c.step_many.new.ports)
    (g.P.Ports.waiting c.step_many.new.ports) c.step_many.ensures.steps c.requires

pub returns-clause-start : goal.returns-clause-start
returns-clause-start g c =
    opening-on g.Self.Unit.does g.met.Self.Unit.sound c.args.self.now (g.P.Ports.gots c.args.ports.now) (g.P.Ports.puts c.args.ports.now) c.step_many.result
    c.step_many.new.self (g.P.Ports.gots c.step_many.new.ports) (g.P.Ports.puts c.step_many.new.ports)
    (g.P.Ports.waiting c.step_many.new.ports) c.step_many.ensures.steps

pub returns-clause-taken : goal.returns-clause-taken
returns-clause-taken g c =
    taken-on g.Self.Unit.does g.met.Self.Unit.sound c.args.self.now (g.P.Ports.gots c.args.ports.now) (g.P.Ports.puts c.args.ports.now) c.step_many.result
    c.step_many.new.self (g.P.Ports.gots c.step_many.new.ports) (g.P.Ports.puts c.step_many.new.ports)
    (g.P.Ports.waiting c.step_many.new.ports) c.step_many.ensures.steps

pub returns-clause-told : goal.returns-clause-told
returns-clause-told g c =
    told-on g.Self.Unit.does g.met.Self.Unit.sound c.args.self.now (g.P.Ports.gots c.args.ports.now) (g.P.Ports.puts c.args.ports.now) c.step_many.result
    c.step_many.new.self (g.P.Ports.gots c.step_many.new.ports) (g.P.Ports.puts c.step_many.new.ports)
    (g.P.Ports.waiting c.step_many.new.ports) c.step_many.ensures.steps

pub returns-clause-ended : goal.returns-clause-ended
returns-clause-ended g c =
    EndsAs-on g.Self.Unit.does g.met.Self.Unit.sound c.args.self.now (g.P.Ports.gots c.args.ports.now) (g.P.Ports.puts c.args.ports.now) c.step_many.result
    c.step_many.new.self (g.P.Ports.gots c.step_many.new.ports) (g.P.Ports.puts c.step_many.new.ports)
    (g.P.Ports.waiting c.step_many.new.ports) c.step_many.ensures.steps

pub returns-clause-memory : goal.returns-clause-memory
returns-clause-memory g c = memory-ends g.Self.Unit.does g.met.Self.Unit.sound c.step_many.result c.step_many.new.self (returns-clause-ended g c)
