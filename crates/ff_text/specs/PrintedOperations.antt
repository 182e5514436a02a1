-- What is printed of an operation spells it. Bytes can stand for its arguments: numbers of 64 bits, comparisons, and texts
-- without quote, tab and newline.
use Rattle.std.specs.Prelude.{◌≡◌, List, [], ◌∷◌, ◌++◌, Ok}
use Rattle.std.specs.List.{AllByRecursion}
use Rattle.ff_ops.specs.Operation.{OpState, read_op, printed_op}
use Rattle.ff_ops.specs.Table.{name_of}
use Rattle.ff_ops.specs.declared.arg.Arg.{Arg}
use Rattle.ff_ops.specs.declared.row.Row.{Row}
use Rattle.ff_net.specs.Tree.{Leaf}
use Rattle.ff_text.specs.Tokens.{Stop}
use Rattle.ff_text.specs.Cutting.{tokens}
use Rattle.ff_text.specs.Printing.{IsPrintable, tokens_of}
use Rattle.ff_text.specs.OperationTokens.{argument_token, spelling}
use Rattle.ff_text.specs.Grammar.{IsNet, most_forms}
use Rattle.ff_text.specs.Faults.{text_of}

-- an operation whose arguments bytes can stand for is printed as what spells it
abbrev pub PrintedOpIsSpelling : Type 0
PrintedOpIsSpelling = (o : OpState) → AllByRecursion (λ a. IsPrintable (argument_token a)) o.args → tokens_of (tokens (printed_op o.row o.args)) ≡ spelling o ++ Stop ∷ []

-- and where its arguments fit its row, what is printed is a text of the network that is this one operation
abbrev pub PrintedOpIsRead : Type 0
PrintedOpIsRead =
    (row : Row) (args : List Arg) (o : OpState) → read_op (name_of row) args ≡ Ok o → AllByRecursion (λ a. IsPrintable (argument_token a)) args
    → IsNet (Leaf o) most_forms × (tokens_of (tokens (printed_op row args)) ≡ text_of (Leaf o))
