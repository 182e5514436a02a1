use Rattle.std.proofs.Common.{◌≡◌, drop}
use Rattle.ff_net.specs.Tree.{trees_of}
use Rattle.ff_net.specs.RuleTests.{each_plain}
use Rattle.ff_net.proofs.leaves.+plain.Given as goal

-- the parts that are left decide
abbrev pub invariant-each_plain-loop-part : goal.invariant-each_plain-loop-part
invariant-each_plain-loop-part g l = each_plain g.N.Node.does (trees_of l.parts) ≡ each_plain g.N.Node.does (trees_of (drop l.part-index l.parts))
