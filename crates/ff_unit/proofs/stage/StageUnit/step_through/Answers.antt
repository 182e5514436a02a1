use Rattle.std.proofs.Common.{sym, subst}
use Rattle.ff_unit.specs.StageLaws.{IsUnit-stage}
use Rattle.ff_unit.specs.StagePorts.{StageReady}
use Rattle.ff_unit.proofs.stage.StageUnit.step_through.Goals as goal

pub step_through-requires-clause-ready : goal.step_through-requires-clause-ready
step_through-requires-clause-ready g c =
    let gots = g.P.Ports.gots c.args.ports.now in
    let puts = g.P.Ports.puts c.args.ports.now in
    subst (λ u. StageReady u gots puts) (sym c.self.view_is)
    ((IsUnit-stage g.N.Node.does g.met.N.Node.keeps_kind g.met.N.Node.class_law).ready c.args.self.now gots puts c.requires)
