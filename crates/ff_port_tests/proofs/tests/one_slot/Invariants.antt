use Rattle.ff_rec.specs.Streams.{IsOpen}
use Rattle.ff_port.specs.Queues.{put_of}
use Rattle.ff_port_tests.proofs.tests.one_slot.Given as goal

abbrev pub invariant-loop-number : goal.invariant-loop-number
invariant-loop-number g l = IsOpen (put_of l.q)
