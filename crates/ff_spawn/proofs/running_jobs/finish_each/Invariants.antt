use Rattle.std.proofs.Common.{◌≡◌, ◌+◌, ◌≤◌, reverse, vec_len, vec_capacity}
use Rattle.ff_spawn.proofs.Finishing.{FinishesFront}
use Rattle.ff_spawn.proofs.running_jobs.finish_each.Given as goal

-- the first of the jobs were finished, and the others still run
abbrev pub invariant-loop-started : goal.invariant-loop-started
invariant-loop-started g l = record {
  front : FinishesFront g.J.Job.done g.J.Job.amount (reverse l.initial.list.items) (reverse l.list.items) l.initial.jobs.items l.jobs.items (g.S.Refusals.worked l.initial.spawner) (g.S.Refusals.worked l.spawner);
  room : vec_len l.jobs + vec_len l.list ≤ vec_capacity l.jobs;
  refused : g.S.Refusals.refused l.spawner ≡ g.S.Refusals.refused l.initial.spawner;
  starts : g.S.Refusals.starts l.spawner ≡ g.S.Refusals.starts l.initial.spawner;
  worked_stays : g.S.Refusals.worked l.initial.spawner ≤ g.S.Refusals.worked l.spawner;
}

abbrev pub decreases-loop-started : goal.decreases-loop-started
decreases-loop-started g l = vec_len l.list
