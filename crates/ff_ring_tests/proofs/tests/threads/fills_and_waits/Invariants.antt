use Rattle.ff_rec.specs.Streams.{IsOpen}
use Rattle.ff_ring.specs.Ends.{put_of}
use Rattle.ff_ring_tests.proofs.tests.threads.fills_and_waits.Given as goal

abbrev pub invariant-loop : goal.invariant-loop
invariant-loop g l = IsOpen (put_of l.out)
