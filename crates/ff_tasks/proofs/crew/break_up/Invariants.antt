use Rattle.std.proofs.Common.{◌≡◌, ◌≤◌, false, vec_len, vec_capacity}
use Rattle.std.specs.List.{All}
use Rattle.ff_tasks.proofs.crew.break_up.Given as goal

-- the jobs that are left hadn't begun
abbrev pub invariant-loop-job : goal.invariant-loop-job
invariant-loop-job g l = record {
  begin : All (λ job. job.ended ≡ false) l.jobs.items;
  few : vec_len l.jobs ≤ vec_len l.fn.jobs;
  room : vec_capacity l.jobs ≡ vec_capacity l.fn.jobs;
}

abbrev pub decreases-loop-job : goal.decreases-loop-job
decreases-loop-job g l = vec_len l.jobs
