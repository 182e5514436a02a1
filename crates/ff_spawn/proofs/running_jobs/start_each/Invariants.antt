use Rattle.std.proofs.Common.{◌≡◌, ◌+◌, ◌≤◌, ◌++◌, reverse, vec_len, vec_capacity}
use Rattle.ff_spawn.specs.Counts.{count_more}
use Rattle.ff_spawn.proofs.running_jobs.start_each.Given as goal

-- no job was lost, and each one that runs was counted
abbrev pub invariant-loop-job : goal.invariant-loop-job
invariant-loop-job g l = record {
  conserved : l.jobs.items ++ reverse l.list.items ≡ l.initial.jobs.items;
  length : vec_len l.jobs + vec_len l.list ≡ vec_len l.initial.jobs;
  room : vec_capacity l.list ≡ vec_capacity l.initial.list;
  capacity : vec_capacity l.jobs ≡ vec_capacity l.initial.jobs;
  refused : g.S.Refusals.refused l.spawner ≡ g.S.Refusals.refused l.initial.spawner;
  starts : g.S.Refusals.starts l.spawner ≡ count_more (g.S.Refusals.starts l.initial.spawner) (reverse l.list.items);
  starts_stays : g.S.Refusals.starts l.initial.spawner ≤ g.S.Refusals.starts l.spawner;
  worked : g.S.Refusals.worked l.spawner ≡ g.S.Refusals.worked l.initial.spawner;
}

abbrev pub decreases-loop-job : goal.decreases-loop-job
decreases-loop-job g l = vec_len l.jobs
