use Rattle.std.proofs.Common.{◌≡◌, ◌+◌, drop}
use Rattle.ff_net.specs.At.{part_of}
use Rattle.ff_net.specs.Tree.{trees_of}
use Rattle.ff_net.proofs.at.part_of.Given as goal

-- the parts that are left decide
abbrev pub invariant-loop-i : goal.invariant-loop-i
invariant-loop-i g l = part_of 1 (trees_of l.parts) l.k ≡ part_of (l.i + 1) (trees_of (drop l.i l.parts)) l.k
