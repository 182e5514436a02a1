use Rattle.std.proofs.Common.{◌≡◌, drop}
use Rattle.ff_net.specs.Tree.{trees_of}
use Rattle.ff_net.specs.Forms.{any_wrap}
use Rattle.ff_net.proofs.forms.+wraps.Given as goal

-- the parts that are left decide
abbrev pub invariant-any_wrap-loop-part : goal.invariant-any_wrap-loop-part
invariant-any_wrap-loop-part g l = any_wrap (trees_of l.parts) ≡ any_wrap (trees_of (drop l.part-index l.parts))
