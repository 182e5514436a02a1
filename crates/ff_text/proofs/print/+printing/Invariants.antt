use Rattle.std.proofs.Common.{◌≡◌, ◌++◌, drop}
use Rattle.ff_net.specs.Tree.{trees_of}
use Rattle.ff_text.specs.NetPrinting.{printed_parts}
use Rattle.ff_text.proofs.Printed.{printed_left}
use Rattle.ff_text.proofs.print.+printing.Given as goal

-- what is printed, and what is left
abbrev pub invariant-print_parts-loop-part : goal.invariant-print_parts-loop-part
invariant-print_parts-loop-part l =
    l.initial.into.items ++ printed_parts (trees_of l.parts) ≡ l.into.items ++ printed_left l.first (trees_of (drop l.part-index l.parts))
