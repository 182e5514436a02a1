use Rattle.std.proofs.Common.{◌≡◌, map, vec_len}
use Rattle.ff_tasks.specs.Seats.{links}
use Rattle.ff_tasks.proofs.Ends.{SettledBehind}
use Rattle.ff_tasks.proofs.settling.settle_all.Given as goal

-- the workers behind those that are left are settled
abbrev pub invariant-loop-job : goal.invariant-loop-job
invariant-loop-job g l = record {
  links : links l.seats.items ≡ map (λ job. job.link) l.jobs.items;
  settled : SettledBehind l.fn.seats.items l.fn.jobs.items l.seats.items l.jobs.items;
}

abbrev pub decreases-loop-job : goal.decreases-loop-job
decreases-loop-job g l = vec_len l.jobs
