use Rattle.std.proofs.Common.{drop}
use Rattle.ff_net.specs.Tree.{trees_of}
use Rattle.ff_mean.proofs.PartSteps.{PartsLeft}
use Rattle.ff_mean.proofs.part.run_parts.Given as goal

-- what comes of the parts that are left is what comes of all
abbrev pub invariant-loop-part : goal.invariant-loop-part
invariant-loop-part g l =
    PartsLeft g.N.Node.does l.limit (trees_of l.parts) l.initial.records l.initial.out (trees_of (drop l.part-index l.parts)) l.records l.out
