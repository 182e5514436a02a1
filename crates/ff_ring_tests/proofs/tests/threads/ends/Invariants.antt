use Rattle.std.proofs.Common.{◌≡◌}
use Rattle.ff_rec.specs.Streams.{IsOpen}
use Rattle.ff_ring.specs.Ends.{put_of, written_ring}
use Rattle.ff_ring_tests.proofs.tests.threads.ends.Given as goal

abbrev pub invariant-loop : goal.invariant-loop
invariant-loop g l = record {
  open_still : IsOpen (put_of l.out);
  link : written_ring l.out ≡ written_ring l.initial.out;
}
