use Rattle.std.proofs.Common.{refl, ◌∙◌, ap, reverse, arith}
use Rattle.ff_spawn.proofs.Finishing.{finishes_none, finishes_one, reverse-push}
use Rattle.ff_spawn.proofs.running_jobs.finish_each.Goals as goal

pub loop-started-init : goal.loop-started-init
loop-started-init g c = record {
  front = finishes_none g.J.Job.done g.J.Job.amount _ _ _;
  room = c.requires;
  refused = refl;
  starts = refl;
  worked_stays = omega arith;
}

pub loop-started-preserved : goal.loop-started-preserved
loop-started-preserved g c = record {
  front = finishes_one g.J.Job.done g.J.Job.amount _ _ _ _ _ _ _ _ _ c.in-Some.started c.finish.result c.loop-started.invariant.front (ap reverse c.in-Some.ensures.items ∙ reverse-push c.pop.new.self.items c.in-Some.started) c.push_reserved.ensures.items c.finish.ensures.done c.finish.ensures.worked;
  room = omega (arith, c.in-Some.ensures.cases);
  refused = c.finish.ensures.refused ∙ c.loop-started.invariant.refused;
  starts = c.finish.ensures.starts ∙ c.loop-started.invariant.starts;
  worked_stays = omega arith;
}
