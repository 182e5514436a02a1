use Rattle.std.proofs.Common.{arith}
use Rattle.ff_spawn.proofs.Finishing.{conserved_push, count_more-reverse}
use Rattle.ff_spawn.proofs.running_jobs.start_each.Goals as goal

pub loop-job-preserved : goal.loop-job-preserved
loop-job-preserved g c =
    let before = c.loop-job.invariant in
    let popped = c.in-Some.ensures in
    let started = c.in-Ok.ensures in record {
      conserved = conserved_push c.loop-job.jobs.items c.pop.new.self.items c.args.jobs.now.items c.loop-job.list.items c.push_reserved.new.self.items c.in-Some.job c.in-Ok.started before.conserved popped.items c.push_reserved.ensures.items started.job;
      length = omega (arith, popped.cases);
      room = omega arith;
      capacity = omega (arith, popped.capacity);
      refused = omega (arith, started.refused);
      starts = count_more-reverse (g.S.Refusals.starts c.args.spawner.now) (g.S.Refusals.starts c.loop-job.spawner) (g.S.Refusals.starts c.start.new.self) c.loop-job.list.items c.push_reserved.new.self.items c.in-Ok.started before.starts started.starts c.push_reserved.ensures.items;
      starts_stays = omega (arith, started.starts_stays);
      worked = omega (arith, started.worked);
    }
