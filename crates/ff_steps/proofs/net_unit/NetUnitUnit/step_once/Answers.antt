-- What is asked of a unit is asked of its part.
use Rattle.std.proofs.Common.{rules, sym, ap, ◌∙◌, subst}
use Rattle.ff_steps.specs.NetUnits.{NetState, net_does}
use Rattle.ff_steps.specs.PartViews.{state_of}
use Rattle.ff_steps.proofs.net_unit.NetUnitUnit.step_once.Goals.{in-Stage, in-Deal, in-ODeal, in-Merge, in-OMerge, in-Master, in-Worker}
use Rattle.ff_steps.proofs.net_unit.NetUnitUnit.step_once.Goals as goal

pub step_once-requires : goal.step_once-requires
step_once-requires g c =
    subst (λ (u : NetState g.row.N.Denot). (net_does g.N.Node.does).Ready u (g.P.Ports.gots c.args.ports.now) (g.P.Ports.puts c.args.ports.now))
    (sym c.self.view_is ∙ ap state_of c.in-Stage.is) c.requires

pub step_once-requires-in-Deal : goal.step_once-requires-in-Deal
step_once-requires-in-Deal g c =
    subst (λ (u : NetState g.row.N.Denot). (net_does g.N.Node.does).Ready u (g.P.Ports.gots c.args.ports.now) (g.P.Ports.puts c.args.ports.now))
    (sym c.self.view_is ∙ ap state_of c.in-Deal.is) c.requires

pub step_once-requires-in-ODeal : goal.step_once-requires-in-ODeal
step_once-requires-in-ODeal g c =
    subst (λ (u : NetState g.row.N.Denot). (net_does g.N.Node.does).Ready u (g.P.Ports.gots c.args.ports.now) (g.P.Ports.puts c.args.ports.now))
    (sym c.self.view_is ∙ ap state_of c.in-ODeal.is) c.requires

pub step_once-requires-in-Merge : goal.step_once-requires-in-Merge
step_once-requires-in-Merge g c =
    subst (λ (u : NetState g.row.N.Denot). (net_does g.N.Node.does).Ready u (g.P.Ports.gots c.args.ports.now) (g.P.Ports.puts c.args.ports.now))
    (sym c.self.view_is ∙ ap state_of c.in-Merge.is) c.requires

pub step_once-requires-in-OMerge : goal.step_once-requires-in-OMerge
step_once-requires-in-OMerge g c =
    subst (λ (u : NetState g.row.N.Denot). (net_does g.N.Node.does).Ready u (g.P.Ports.gots c.args.ports.now) (g.P.Ports.puts c.args.ports.now))
    (sym c.self.view_is ∙ ap state_of c.in-OMerge.is) c.requires

pub step_once-requires-in-Master : goal.step_once-requires-in-Master
step_once-requires-in-Master g c =
    subst (λ (u : NetState g.row.N.Denot). (net_does g.N.Node.does).Ready u (g.P.Ports.gots c.args.ports.now) (g.P.Ports.puts c.args.ports.now))
    (sym c.self.view_is ∙ ap state_of c.in-Master.is) c.requires

pub step_once-requires-in-Worker : goal.step_once-requires-in-Worker
step_once-requires-in-Worker g c =
    subst (λ (u : NetState g.row.N.Denot). (net_does g.N.Node.does).Ready u (g.P.Ports.gots c.args.ports.now) (g.P.Ports.puts c.args.ports.now))
    (sym c.self.view_is ∙ ap state_of c.in-Worker.is) c.requires

pub returns-clause-once : goal.returns-clause-once
returns-clause-once g c = elim c.match-self.branch [
  | in-Stage w ↦ search rules
  | in-Deal w ↦ search rules
  | in-ODeal w ↦ search rules
  | in-Merge w ↦ search rules
  | in-OMerge w ↦ search rules
  | in-Master w ↦ search rules
  | in-Worker w ↦ search rules
]
