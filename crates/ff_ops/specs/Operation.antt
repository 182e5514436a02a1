-- An operation: its row with arguments that fit it, how it stands in a text, and what it does.
use Rattle.std.specs.Prelude.{◌≡◌, ℕ, ◌==◌, not, if◌then◌else◌, List, ◌∷◌, ◌++◌, length, position, zip, Option, None, Some, Result, Ok, Err}
use Rattle.std.specs.List.{flat_map}
use Rattle.ff_node.specs.Behaviour.{Behaviour}
use Rattle.ff_ops.specs.Arguments.{suits, is_within, printed_argument}
use Rattle.ff_ops.specs.Families.{family_of, family_node}
use Rattle.ff_ops.specs.Table.{name_of, kinds_of, row_named}
use Rattle.ff_ops.specs.declared.arg.Arg.{Arg}
use Rattle.ff_ops.specs.declared.arg.ArgKind.{ArgKind}
use Rattle.ff_ops.specs.declared.family.Family.{Family}
use Rattle.ff_ops.specs.declared.op.OpFault.{OpFault}
use Rattle.ff_ops.specs.declared.op.OpFault.TheVariants.{UnknownOp, ArgCount, ArgKind as WrongKind, ArgRange}
use Rattle.ff_ops.specs.declared.row.Row.{Row}

-- a row with its arguments, and how far it has come
pub record OpState : Type 0 where
  pub row : Row
  pub args : List Arg
  pub family : Family

abbrev pub op_state : Row → List Arg → Family → OpState
op_state row args family = record { row = row; args = args; family = family }

-- a row with its arguments, before its first record
abbrev pub operation : Row → List Arg → OpState
operation row args = op_state row args (family_of row args)

-- the place of the first argument that isn't of its kind
abbrev pub first_unsuited : List Arg → List ArgKind → Option ℕ
first_unsuited args kinds = position (λ a. not (suits a.0 a.1)) (zip args kinds)

-- the place of the first argument that is outside the range of its kind
abbrev pub first_outside : List Arg → List ArgKind → Option ℕ
first_outside args kinds = position (λ a. not (is_within a.0 a.1)) (zip args kinds)

-- the operation with a name and these arguments; the refusals in their order
abbrev pub read_op : List ℕ → List Arg → Result OpState OpFault
read_op name args = read_row (row_named name)
  where
    read_within : Row → Option ℕ → Result OpState OpFault
    read_within row None = Ok (operation row args)
    read_within row (Some k) = Err (ArgRange k)

    read_suited : Row → Option ℕ → Result OpState OpFault
    read_suited row None = read_within row (first_outside args (kinds_of row))
    read_suited row (Some k) = Err (WrongKind k)

    read_row : Option Row → Result OpState OpFault
    read_row None = Err UnknownOp
    read_row (Some row) =
        if length args == length (kinds_of row) then read_suited row (first_unsuited args (kinds_of row)) else Err ArgCount

-- an operation as it stands in a text: its name, and each argument behind a space
abbrev pub printed_arguments : List Arg → List ℕ
printed_arguments args = flat_map (λ a. 32 ∷ printed_argument a) args

abbrev pub printed_op : Row → List Arg → List ℕ
printed_op row args = name_of row ++ printed_arguments args

abbrev pub op_text : OpState → List ℕ
op_text o = printed_op o.row o.args

-- an operation as a node
abbrev pub op_node : Behaviour OpState
op_node = record {
  class = λ o. family_node.class o.family;
  opening = λ o. record o { family = family_node.opening o.family };
  sends = λ o r. family_node.sends o.family r;
  rejects = λ o r. family_node.rejects o.family r;
  next = λ o r. record o { family = family_node.next o.family r };
  ends = λ o r. family_node.ends o.family r;
  last = λ o. family_node.last o.family;
  last_rejects = λ o. family_node.last_rejects o.family;
}

-- an operation is read again from its name and its arguments
abbrev pub IsReadAgain : OpState → Type 0
IsReadAgain o = read_op (name_of o.row) o.args ≡ Ok (op_node.opening o)
