use Rattle.std.proofs.Common.{◌≡◌, ◌++◌, drop}
use Rattle.ff_net.specs.Tree.{tree_of}
use Rattle.ff_text.specs.PlanText.{printed_units}
use Rattle.ff_text.proofs.print.plan.print_units.Given as goal

-- what is printed, and what is left
abbrev pub invariant-loop-k : goal.invariant-loop-k
invariant-loop-k l = l.initial.into.items ++ printed_units (tree_of l.net) 0 l.units ≡ l.into.items ++ printed_units (tree_of l.net) l.k (drop l.k l.units)
