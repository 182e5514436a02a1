-- A printed operation is a printed network of one node.
use Rattle.std.proofs.Common.{◌++◌, sym, ap, subst, ◌∙◌}
use Rattle.std.specs.List.{AllByRecursion}
use Rattle.ff_ops.specs.Operation.{printed_arguments, printed_op}
use Rattle.ff_ops.specs.Table.{name_of}
use Rattle.ff_net.specs.Tree.{Leaf}
use Rattle.ff_text.specs.Cutting.{tokens}
use Rattle.ff_text.specs.Printing.{IsPrintable, tokens_of, PrintedIsCut}
use Rattle.ff_text.specs.OperationTokens.{argument_token}
use Rattle.ff_text.specs.PrintedOperations.{PrintedOpIsSpelling, PrintedOpIsRead}
use Rattle.ff_text.proofs.OpParts.{read_op-parts, IsNew-read_op}
use Rattle.ff_text.proofs.NetPieces.{tokens_of-printed_net}

pub printed_op_is_spelling : PrintedIsCut → PrintedOpIsSpelling
printed_op_is_spelling cut o can = tokens_of-printed_net cut (Leaf o) can

pub printed_op_is_read : PrintedIsCut → PrintedOpIsRead
printed_op_is_read cut row args o e can =
    let parts = read_op-parts (name_of row) args o e in (
      IsNew-read_op (name_of row) args o e,
      ap (λ name. tokens_of (tokens (name ++ printed_arguments args))) (sym parts.0)
          ∙ ap (λ l. tokens_of (tokens (printed_op o.row l))) (sym parts.1)
          ∙ printed_op_is_spelling cut o (subst (λ l. AllByRecursion (λ a. IsPrintable (argument_token a)) l) (sym parts.1) can),
    )
