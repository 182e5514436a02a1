use Rattle.std.proofs.Common.{◌≡◌, take}
use Rattle.ff_net.specs.Tree.{trees_of}
use Rattle.ff_net.specs.Nodes.{all_opened}
use Rattle.ff_net.proofs.copy.+copies.Given as goal

-- what is copied so far
abbrev pub invariant-all_copied-loop-part : goal.invariant-all_copied-loop-part
invariant-all_copied-loop-part g l = trees_of l.copies.items ≡ all_opened g.N.Node.does (trees_of (take l.part-index l.parts))
