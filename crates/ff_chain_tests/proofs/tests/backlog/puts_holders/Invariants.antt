use Rattle.ff_rec.specs.Streams.{IsOpen}
use Rattle.ff_chain_tests.proofs.tests.backlog.puts_holders.Given as goal

abbrev pub invariant-loop : goal.invariant-loop
invariant-loop l = IsOpen l.out.put
