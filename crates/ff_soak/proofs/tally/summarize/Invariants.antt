use Rattle.std.proofs.Common.{length}
use Rattle.ff_soak.proofs.Tallies.{HasTallied}
use Rattle.ff_soak.proofs.tally.summarize.Given as goal

abbrev pub invariant-loop-rest : goal.invariant-loop-rest
invariant-loop-rest l = HasTallied l.bytes l.rest l.keys l.plus l.minus

abbrev pub decreases-loop-rest : goal.decreases-loop-rest
decreases-loop-rest l = length l.rest
