-- The messages so far end no stream, and none was taken.
use Rattle.std.proofs.Common.{◌≡◌, []}
use Rattle.ff_rec.specs.Streams.{IsOpen}
use Rattle.ff_port.specs.Queues.{put_of}
use Rattle.ff_test_ports.proofs.scripts.queue_of.Given as goal

abbrev pub invariant-loop-letter : goal.invariant-loop-letter
invariant-loop-letter l = IsOpen (put_of l.queue) × (l.queue.got ≡ [])
