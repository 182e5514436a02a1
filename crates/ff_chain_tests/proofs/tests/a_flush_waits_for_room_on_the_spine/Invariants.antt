use Rattle.ff_rec.specs.Streams.{IsOpen}
use Rattle.ff_chain_tests.proofs.tests.a_flush_waits_for_room_on_the_spine.Given as goal

abbrev pub invariant-loop-number : goal.invariant-loop-number
invariant-loop-number g l = IsOpen l.out.put

abbrev pub invariant-loop-number-2 : goal.invariant-loop-number-2
invariant-loop-number-2 g l = IsOpen l.out.put
