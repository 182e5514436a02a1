use Rattle.std.proofs.Common.{length}
use Rattle.ff_net.specs.Levels.{meets}
use Rattle.ff_net.proofs.Sorting.{SortsOn}
use Rattle.ff_net.proofs.tasks.sort.Given as goal

-- how far the sends were sorted
abbrev pub invariant-loop-r : goal.invariant-loop-r
invariant-loop-r l = SortsOn (meets l.test) l.initial.tasks l.tasks l.initial.out l.out

abbrev pub decreases-loop-r : goal.decreases-loop-r
decreases-loop-r l = length l.out.sends
