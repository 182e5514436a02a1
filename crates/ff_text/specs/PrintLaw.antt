-- Printed networks are read again.
use Rattle.std.specs.Prelude.{◌≡◌, ℕ, ◌≤◌, List, length}
use Rattle.std.specs.List.{AllByRecursion}
use Rattle.ff_rec.specs.Number.{IsNumber}
use Rattle.ff_rec.specs.declared.limits.TheConstants.{LONGEST_TEXT}
use Rattle.ff_ops.specs.Operation.{OpState, op_node}
use Rattle.ff_net.specs.Tree.{Tree, Trees, Leaf, Pipe, Comb, Farm, OFarm, A2a, Wrap, none, more}
use Rattle.ff_text.specs.Cutting.{tokens}
use Rattle.ff_text.specs.Printing.{IsPrintable, tokens_of}
use Rattle.ff_text.specs.OperationTokens.{argument_token}
use Rattle.ff_text.specs.Grammar.{IsNet, most_forms}
use Rattle.ff_text.specs.Faults.{text_of}
use Rattle.ff_text.specs.NetPrinting.{printed_net}
use Rattle.ff_net.specs.Nodes.{opened}
use Rattle.ff_text.specs.Reading.{IsReadFault}
use Rattle.ff_text.specs.declared.fault.ReadFault.{ReadFault}
use Rattle.ff_text.specs.declared.fault.ReadFault.TheVariants.{NoMemory}

abbrev mutual
  -- what bytes can stand for: numbers of 64 bits, and texts without quote, tab and newline
  pub CanPrint : Tree OpState → Type 0
  CanPrint (Leaf o) = AllByRecursion (λ a. IsPrintable (argument_token a)) o.args
  CanPrint (Pipe ts) = CanPrintAll ts
  CanPrint (Comb ts) = CanPrintAll ts
  CanPrint (Farm n s w) = CanPrint w
  CanPrint (OFarm n s w) = CanPrint w
  CanPrint (A2a n l r m t) = CanPrint l × CanPrint t
  CanPrint (Wrap n w test) = CanPrint w × IsNumber test.value

  pub CanPrintAll : Trees OpState → Type 0
  CanPrintAll none = Unit {0}
  CanPrintAll (more t ts) = CanPrint t × CanPrintAll ts

-- a printed network is cut into the tokens that spell it
abbrev pub PrintedNetsAreSpelled : Type 0
PrintedNetsAreSpelled = (t : Tree OpState) (room : ℕ) → IsNet t room → CanPrint t → tokens_of (tokens (printed_net t)) ≡ text_of t

-- Bytes are a text of this network and of no other, and no fault is found in them.
pub record IsTextOf (text : List ℕ) (t : Tree OpState) : Type 0 where
  pub net : IsNet t most_forms
  pub spelled : tokens_of (tokens text) ≡ text_of t
  pub only : (u : Tree OpState) → IsNet u most_forms → tokens_of (tokens text) ≡ text_of u → u ≡ t
  pub faultless : (fault : ReadFault) → IsReadFault text fault → fault ≡ NoMemory

-- What is printed of a network, whatever its nodes have done, is read as the network with its nodes before their first
-- records, where it isn't too long for a text.
abbrev pub PrintedNetsAreReadAgain : Type 0
PrintedNetsAreReadAgain =
    (t : Tree OpState) → IsNet (opened op_node t) most_forms → CanPrint (opened op_node t) → length (printed_net t) ≤ LONGEST_TEXT
    → IsTextOf (printed_net t) (opened op_node t)
