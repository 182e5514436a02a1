use Rattle.ff_rec.specs.Streams.{IsOpen}
use Rattle.ff_ring.specs.Ends.{put_of}
use Rattle.ff_ring_tests.proofs.tests.one_slot_holds_one_message.Given as goal

abbrev pub invariant-loop-number : goal.invariant-loop-number
invariant-loop-number g l = IsOpen (put_of l.out)
