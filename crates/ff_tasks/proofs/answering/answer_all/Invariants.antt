-- Every task that it took is answered.
use Rattle.std.proofs.Common.{◌≡◌, length}
use Rattle.ff_rec.specs.Counts.{counted}
use Rattle.ff_rec.specs.Streams.{items}
use Rattle.ff_ring.specs.Ends.{got_of, put_of, read_ring, written_ring}
use Rattle.ff_tasks.specs.Jobs.{HasKept}
use Rattle.ff_tasks.proofs.answering.answer_all.Given as goal

abbrev pub invariant-loop : goal.invariant-loop
invariant-loop g l = record {
  same : g.H.Handler.answers l.handler ≡ g.H.Handler.answers l.initial.handler;
  reads : read_ring l.tasks ≡ read_ring l.initial.tasks;
  writes : written_ring l.answers ≡ written_ring l.initial.answers;
  kept : HasKept (g.H.Handler.answers l.initial.handler) (got_of l.tasks) (put_of l.answers);
  count : l.answered ≡ counted (length (items (put_of l.answers)));
}
