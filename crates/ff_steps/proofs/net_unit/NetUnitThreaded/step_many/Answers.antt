-- What is asked of a unit is asked of its part, and what its part did the unit did.
use Rattle.std.proofs.Common.{refl, sym, ap, ◌∙◌, subst}
use Rattle.ff_loop.specs.WorkerUnit.{worker_does}
use Rattle.ff_loop.specs.WrapMasters.{wrap_does}
use Rattle.ff_node.specs.Comb.{comb_node}
use Rattle.ff_order.specs.OMerges.{omerge_does}
use Rattle.ff_unit.specs.Deals.{deal_does}
use Rattle.ff_unit.specs.Merges.{merge_does}
use Rattle.ff_unit.specs.StageUnit.{stage_does}
use Rattle.ff_unit.specs.Units.{Ran}
use Rattle.ff_steps.specs.NetUnitLaws.{Ran-stage, Ran-deal, Ran-merge, Ran-omerge, Ran-master, Ran-worker}
use Rattle.ff_steps.specs.NetUnits.{NetState, AsStage, AsDeal, AsMerge, AsOMerge, AsMaster, AsWorker, net_does}
use Rattle.ff_steps.specs.PartViews.{state_of}
use Rattle.ff_steps.proofs.StepsOn.{StepsOn-others, ShortOnly-others}
use Rattle.ff_steps.proofs.net_unit.NetUnitThreaded.step_many.Goals.{in-Stage, in-Deal, in-ODeal, in-Merge, in-OMerge, in-Master, in-Worker}
use Rattle.ff_steps.proofs.net_unit.NetUnitThreaded.step_many.Goals as goal

pub step_on-requires : goal.step_on-requires
step_on-requires g c =
    Ran-stage g.N.Node.does c.in-Stage.stage (g.P.Ports.gots c.args.ports.now) (g.P.Ports.puts c.args.ports.now)
    (subst (λ (u : NetState g.row.N.Denot). Ran (net_does g.N.Node.does) u (g.P.Ports.gots c.args.ports.now) (g.P.Ports.puts c.args.ports.now))
    (sym c.self.view_is ∙ ap state_of c.in-Stage.is) c.requires)

pub step_on-requires-in-Deal : goal.step_on-requires-in-Deal
step_on-requires-in-Deal g c =
    Ran-deal g.N.Node.does c.in-Deal.deal (g.P.Ports.gots c.args.ports.now) (g.P.Ports.puts c.args.ports.now)
    (subst (λ (u : NetState g.row.N.Denot). Ran (net_does g.N.Node.does) u (g.P.Ports.gots c.args.ports.now) (g.P.Ports.puts c.args.ports.now))
    (sym c.self.view_is ∙ ap state_of c.in-Deal.is) c.requires)

pub step_on-requires-in-ODeal : goal.step_on-requires-in-ODeal
step_on-requires-in-ODeal g c =
    Ran-deal g.N.Node.does c.in-ODeal.deal (g.P.Ports.gots c.args.ports.now) (g.P.Ports.puts c.args.ports.now)
    (subst (λ (u : NetState g.row.N.Denot). Ran (net_does g.N.Node.does) u (g.P.Ports.gots c.args.ports.now) (g.P.Ports.puts c.args.ports.now))
    (sym c.self.view_is ∙ ap state_of c.in-ODeal.is) c.requires)

pub step_on-requires-in-Merge : goal.step_on-requires-in-Merge
step_on-requires-in-Merge g c =
    Ran-merge g.N.Node.does c.in-Merge.merge (g.P.Ports.gots c.args.ports.now) (g.P.Ports.puts c.args.ports.now)
    (subst (λ (u : NetState g.row.N.Denot). Ran (net_does g.N.Node.does) u (g.P.Ports.gots c.args.ports.now) (g.P.Ports.puts c.args.ports.now))
    (sym c.self.view_is ∙ ap state_of c.in-Merge.is) c.requires)

pub step_on-requires-in-OMerge : goal.step_on-requires-in-OMerge
step_on-requires-in-OMerge g c =
    Ran-omerge g.N.Node.does c.in-OMerge.merge (g.P.Ports.gots c.args.ports.now) (g.P.Ports.puts c.args.ports.now)
    (subst (λ (u : NetState g.row.N.Denot). Ran (net_does g.N.Node.does) u (g.P.Ports.gots c.args.ports.now) (g.P.Ports.puts c.args.ports.now))
    (sym c.self.view_is ∙ ap state_of c.in-OMerge.is) c.requires)

pub step_on-requires-in-Master : goal.step_on-requires-in-Master
step_on-requires-in-Master g c =
    Ran-master g.N.Node.does c.in-Master.master (g.P.Ports.gots c.args.ports.now) (g.P.Ports.puts c.args.ports.now)
    (subst (λ (u : NetState g.row.N.Denot). Ran (net_does g.N.Node.does) u (g.P.Ports.gots c.args.ports.now) (g.P.Ports.puts c.args.ports.now))
    (sym c.self.view_is ∙ ap state_of c.in-Master.is) c.requires)

pub step_on-requires-in-Worker : goal.step_on-requires-in-Worker
step_on-requires-in-Worker g c =
    Ran-worker g.N.Node.does c.in-Worker.worker (g.P.Ports.gots c.args.ports.now) (g.P.Ports.puts c.args.ports.now)
    (subst (λ (u : NetState g.row.N.Denot). Ran (net_does g.N.Node.does) u (g.P.Ports.gots c.args.ports.now) (g.P.Ports.puts c.args.ports.now))
    (sym c.self.view_is ∙ ap state_of c.in-Worker.is) c.requires)

pub returns-clause-steps : goal.returns-clause-steps
returns-clause-steps g c =
    let b = g.N.Node.does in
    elim c.match-self.branch [
      | in-Stage w ↦
          StepsOn-others (stage_does (comb_node b)) (net_does b) AsStage (λ x act y step. (y, refl, step)) (λ x. refl) (λ x. refl) (λ x r. r)
          (sym c.self.view_is ∙ ap state_of w.in-Stage.is) w.result-is (ap (λ i. state_of i.part) w.self-inside-is)
          (ap g.P.Ports.gots w.ports-is) (ap g.P.Ports.puts w.ports-is) (ap g.P.Ports.waiting w.ports-is) w.step_on.ensures.steps
      | in-Deal w ↦
          StepsOn-others deal_does (net_does b) AsDeal (λ x act y step. (y, refl, step)) (λ x. refl) (λ x. refl) (λ x r. r)
          (sym c.self.view_is ∙ ap state_of w.in-Deal.is) w.result-is (ap (λ i. state_of i.part) w.self-inside-is)
          (ap g.P.Ports.gots w.ports-is) (ap g.P.Ports.puts w.ports-is) (ap g.P.Ports.waiting w.ports-is) w.step_on-in-Deal.ensures.steps
      | in-ODeal w ↦
          StepsOn-others deal_does (net_does b) AsDeal (λ x act y step. (y, refl, step)) (λ x. refl) (λ x. refl) (λ x r. r)
          (sym c.self.view_is ∙ ap state_of w.in-ODeal.is) w.result-is (ap (λ i. state_of i.part) w.self-inside-is)
          (ap g.P.Ports.gots w.ports-is) (ap g.P.Ports.puts w.ports-is) (ap g.P.Ports.waiting w.ports-is) w.step_on-in-ODeal.ensures.steps
      | in-Merge w ↦
          StepsOn-others merge_does (net_does b) AsMerge (λ x act y step. (y, refl, step)) (λ x. refl) (λ x. refl) (λ x r. r)
          (sym c.self.view_is ∙ ap state_of w.in-Merge.is) w.result-is (ap (λ i. state_of i.part) w.self-inside-is)
          (ap g.P.Ports.gots w.ports-is) (ap g.P.Ports.puts w.ports-is) (ap g.P.Ports.waiting w.ports-is) w.step_on-in-Merge.ensures.steps
      | in-OMerge w ↦
          StepsOn-others omerge_does (net_does b) AsOMerge (λ x act y step. (y, refl, step)) (λ x. refl) (λ x. refl) (λ x r. r)
          (sym c.self.view_is ∙ ap state_of w.in-OMerge.is) w.result-is (ap (λ i. state_of i.part) w.self-inside-is)
          (ap g.P.Ports.gots w.ports-is) (ap g.P.Ports.puts w.ports-is) (ap g.P.Ports.waiting w.ports-is) w.step_on-in-OMerge.ensures.steps
      | in-Master w ↦
          StepsOn-others wrap_does (net_does b) AsMaster (λ x act y step. (y, refl, step)) (λ x. refl) (λ x. refl) (λ x r. r)
          (sym c.self.view_is ∙ ap state_of w.in-Master.is) w.result-is (ap (λ i. state_of i.part) w.self-inside-is)
          (ap g.P.Ports.gots w.ports-is) (ap g.P.Ports.puts w.ports-is) (ap g.P.Ports.waiting w.ports-is) w.step_on-in-Master.ensures.steps
      | in-Worker w ↦
          StepsOn-others (worker_does (comb_node b)) (net_does b) AsWorker (λ x act y step. (y, refl, step)) (λ x. refl) (λ x. refl) (λ x r. r)
          (sym c.self.view_is ∙ ap state_of w.in-Worker.is) w.result-is (ap (λ i. state_of i.part) w.self-inside-is)
          (ap g.P.Ports.gots w.ports-is) (ap g.P.Ports.puts w.ports-is) (ap g.P.Ports.waiting w.ports-is) w.step_on-in-Worker.ensures.steps
    ]

pub returns-clause-short : goal.returns-clause-short
returns-clause-short g c =
    let b = g.N.Node.does in
    elim c.match-self.branch [
      | in-Stage w ↦
          ShortOnly-others (stage_does (comb_node b)) (net_does b) AsStage (λ x. refl) (λ x. refl) (sym c.self.view_is ∙ ap state_of w.in-Stage.is)
          (ap (λ i. state_of i.part) w.self-inside-is) w.step_on.ensures.short
      | in-Deal w ↦
          ShortOnly-others deal_does (net_does b) AsDeal (λ x. refl) (λ x. refl) (sym c.self.view_is ∙ ap state_of w.in-Deal.is)
          (ap (λ i. state_of i.part) w.self-inside-is) w.step_on-in-Deal.ensures.short
      | in-ODeal w ↦
          ShortOnly-others deal_does (net_does b) AsDeal (λ x. refl) (λ x. refl) (sym c.self.view_is ∙ ap state_of w.in-ODeal.is)
          (ap (λ i. state_of i.part) w.self-inside-is) w.step_on-in-ODeal.ensures.short
      | in-Merge w ↦
          ShortOnly-others merge_does (net_does b) AsMerge (λ x. refl) (λ x. refl) (sym c.self.view_is ∙ ap state_of w.in-Merge.is)
          (ap (λ i. state_of i.part) w.self-inside-is) w.step_on-in-Merge.ensures.short
      | in-OMerge w ↦
          ShortOnly-others omerge_does (net_does b) AsOMerge (λ x. refl) (λ x. refl) (sym c.self.view_is ∙ ap state_of w.in-OMerge.is)
          (ap (λ i. state_of i.part) w.self-inside-is) w.step_on-in-OMerge.ensures.short
      | in-Master w ↦
          ShortOnly-others wrap_does (net_does b) AsMaster (λ x. refl) (λ x. refl) (sym c.self.view_is ∙ ap state_of w.in-Master.is)
          (ap (λ i. state_of i.part) w.self-inside-is) w.step_on-in-Master.ensures.short
      | in-Worker w ↦
          ShortOnly-others (worker_does (comb_node b)) (net_does b) AsWorker (λ x. refl) (λ x. refl) (sym c.self.view_is ∙ ap state_of w.in-Worker.is)
          (ap (λ i. state_of i.part) w.self-inside-is) w.step_on-in-Worker.ensures.short
    ]
