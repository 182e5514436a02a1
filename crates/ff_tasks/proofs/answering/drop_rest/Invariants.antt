-- More was taken.
use Rattle.std.proofs.Common.{◌≡◌}
use Rattle.ff_ring.specs.Ends.{got_of, put_of, read_ring, written_ring}
use Rattle.ff_tasks.specs.Jobs.{Begins}
use Rattle.ff_tasks.proofs.answering.drop_rest.Given as goal

abbrev pub invariant-loop : goal.invariant-loop
invariant-loop g l = record {
  got : Begins (got_of l.initial.tasks) (got_of l.tasks);
  reads : read_ring l.tasks ≡ read_ring l.initial.tasks;
  put : put_of l.answers ≡ put_of l.initial.answers;
  writes : written_ring l.answers ≡ written_ring l.initial.answers;
}
