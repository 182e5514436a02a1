-- What an operation is read from: the name of its row, and arguments that fit it.
use Rattle.std.proofs.Common.{◌≡◌, ℕ, List, Result, Ok, refl, sym, subst, ◌∙◌}
use Rattle.ff_ops.specs.Arguments.{AllFit}
use Rattle.ff_ops.specs.Operation.{OpState, operation, read_op}
use Rattle.ff_ops.specs.Table.{name_of, kinds_of}
use Rattle.ff_ops.specs.declared.arg.Arg.{Arg}
use Rattle.ff_ops.specs.declared.op.OpFault.{OpFault}
use Rattle.ff_ops.specs.declared.row.Row.{Row}
use Rattle.ff_ops.proofs.Fitting.{IsReadFrom-read_op, read_op-AllFit}
use Rattle.ff_ops.proofs.RowLaws.{name_of-row_named}
use Rattle.ff_text.specs.OperationTokens.{IsNew}

-- an operation has the name and the arguments that it is read from
pub read_op-parts : (name : List ℕ) (args : List Arg) (o : OpState) → read_op name args ≡ Ok o → (name_of o.row ≡ name) × (o.args ≡ args)
read_op-parts name args o e =
    let h = IsReadFrom-read_op name args o e in (name_of-row_named name o.row h.named, h.given)

-- one that is made of a row with arguments that fit is new
pub IsNew-operation : (row : Row) (args : List Arg) (o : OpState) → o ≡ operation row args → AllFit args (kinds_of row) → IsNew o
IsNew-operation row args o is fit =
    let made : IsNew (operation row args) = (refl, fit) in subst IsNew (sym is) made

-- and so is one that is read
pub IsNew-read_op : (name : List ℕ) (args : List Arg) (o : OpState) → read_op name args ≡ Ok o → IsNew o
IsNew-read_op name args o e =
    let h = IsReadFrom-read_op name args o e in
    let made : ◌≡◌ {A = Result OpState OpFault} (Ok o) (Ok (operation o.row args)) = sym e ∙ read_op-AllFit name o.row args h.named h.fit in
    let is : o ≡ operation o.row args = cc in
    IsNew-operation o.row args o is h.fit
