use Rattle.std.proofs.Common.{◌≡◌, drop}
use Rattle.ff_net.specs.Tree.{trees_of}
use Rattle.ff_net.specs.Forms.{any_choice}
use Rattle.ff_net.proofs.forms.+choices.Given as goal

-- the parts that are left decide
abbrev pub invariant-any_choice-loop-part : goal.invariant-any_choice-loop-part
invariant-any_choice-loop-part g l = any_choice (trees_of l.parts) ≡ any_choice (trees_of (drop l.part-index l.parts))
