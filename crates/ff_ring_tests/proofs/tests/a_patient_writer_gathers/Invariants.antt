use Rattle.ff_rec.specs.Streams.{IsOpen}
use Rattle.ff_ring.specs.Ends.{put_of}
use Rattle.ff_ring_tests.proofs.tests.a_patient_writer_gathers.Given as goal

abbrev pub invariant-loop-number : goal.invariant-loop-number
invariant-loop-number g l = IsOpen (put_of l.out)

abbrev pub invariant-loop-number-2 : goal.invariant-loop-number-2
invariant-loop-number-2 g l = IsOpen (put_of l.out)
