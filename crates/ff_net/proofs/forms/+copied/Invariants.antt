use Rattle.std.proofs.Common.{◌≡◌, drop}
use Rattle.ff_net.specs.Tree.{trees_of}
use Rattle.ff_net.specs.Forms.{any_copies}
use Rattle.ff_net.proofs.forms.+copied.Given as goal

-- the parts that are left decide
abbrev pub invariant-any_copies-loop-part : goal.invariant-any_copies-loop-part
invariant-any_copies-loop-part g l = any_copies (trees_of l.parts) ≡ any_copies (trees_of (drop l.part-index l.parts))
