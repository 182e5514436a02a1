use Rattle.std.proofs.Common.{◌≡◌, drop}
use Rattle.ff_net.specs.Tree.{trees_of}
use Rattle.ff_net.specs.Forms.{any_unordered}
use Rattle.ff_net.proofs.forms.+unordered.Given as goal

-- the parts that are left decide
abbrev pub invariant-any_unordered-loop-part : goal.invariant-any_unordered-loop-part
invariant-any_unordered-loop-part g l = any_unordered (trees_of l.parts) ≡ any_unordered (trees_of (drop l.part-index l.parts))
