-- The parts of a pipe or comb that are still to be printed.
use Rattle.std.proofs.Common.{ℕ, Bool, true, false, List}
use Rattle.ff_ops.specs.Operation.{OpState}
use Rattle.ff_net.specs.Tree.{Trees}
use Rattle.ff_text.specs.NetPrinting.{printed_parts, printed_behind}

abbrev pub printed_left : Bool → Trees OpState → List ℕ
printed_left true ts = printed_parts ts
printed_left false ts = printed_behind ts
