use Rattle.ff_mean.proofs.LevelSteps.{IsPlainState-next}
use Rattle.ff_mean.proofs.rounds.work.Goals as goal

pub returns-clause-plain : goal.returns-clause-plain
returns-clause-plain g c =
    IsPlainState-next g.W.Node.does g.met.W.Node.keeps_kind g.met.W.Node.class_law c.args.worker.now c.svc.new.self c.args.r c.requires c.in_ok-svc.ensures.state
