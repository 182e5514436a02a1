use Rattle.ff_rec.specs.Streams.{IsOpen}
use Rattle.ff_port.specs.Queues.{put_of}
use Rattle.ff_port_tests.proofs.tests.three_slots_in_order.Given as goal

abbrev pub invariant-loop-number : goal.invariant-loop-number
invariant-loop-number g l = IsOpen (put_of l.q)

abbrev pub invariant-loop-number-2 : goal.invariant-loop-number-2
invariant-loop-number-2 g l = IsOpen (put_of l.q)
