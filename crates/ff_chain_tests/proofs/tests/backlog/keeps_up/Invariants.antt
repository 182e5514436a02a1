use Rattle.ff_rec.specs.Streams.{IsOpen}
use Rattle.ff_chain_tests.proofs.tests.backlog.keeps_up.Given as goal

abbrev pub invariant-loop-turn : goal.invariant-loop-turn
invariant-loop-turn l = IsOpen l.out.put
