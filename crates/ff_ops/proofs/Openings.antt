-- An operation that is made or copied is before its first record, and is read as that operation.
use Rattle.std.proofs.Common.{◌≡◌, List, Ok, refl, sym, ap, subst, ◌∙◌}
use Rattle.ff_ops.specs.Arguments.{AllFit}
use Rattle.ff_ops.specs.Families.{family_of, family_opening}
use Rattle.ff_ops.specs.FamilyLaws.{family_opening-opening}
use Rattle.ff_ops.specs.Operation.{operation, op_node, read_op}
use Rattle.ff_ops.specs.Table.{name_of, kinds_of}
use Rattle.ff_ops.specs.declared.arg.Arg.{Arg}
use Rattle.ff_ops.specs.declared.family.Family.{Family}
use Rattle.ff_ops.specs.declared.row.Row.{Row}
use Rattle.ff_ops.specs.declared.row.Row.TheVariants.{Id}
use Rattle.ff_ops.proofs.Fitting.{read_op-AllFit}
use Rattle.ff_ops.proofs.RowLaws.{row_named-name_of}

-- a row's operation is before its first record
pub family_opening-family_of : (row : Row) (args : List Arg) → family_opening (family_of row args) ≡ family_of row args
family_opening-family_of Id args = refl
family_opening-family_of row args = refl

pub opening-operation : (row : Row) (args : List Arg) → op_node.opening (operation row args) ≡ operation row args
opening-operation row args = ap (λ (f : Family). record (operation row args) { family = f }) (family_opening-family_of row args)

-- what these are read as, where that is what they are
abbrev pub IsRead : Row → List Arg → Family → Type 0
IsRead row args family = read_op (name_of row) args ≡ Ok (record { row = row; args = args; family = family })

-- arguments that fit are read
pub IsRead-made : (row : Row) (args : List Arg) (family : Family) → AllFit args (kinds_of row) → family ≡ family_of row args → IsRead row args (family_opening family)
IsRead-made row args family fit is =
    subst (λ f. IsRead row args f) (sym (ap family_opening is ∙ family_opening-family_of row args))
    (read_op-AllFit (name_of row) row args (row_named-name_of row) fit)

-- so are those of a copy
pub IsRead-copy : (row : Row) (args args' : List Arg) (family family' : Family)
    → IsRead row args (family_opening family) → args' ≡ args → family' ≡ family_opening family → IsRead row args' (family_opening family')
IsRead-copy row args args' family family' h same opened =
    subst (λ list. IsRead row list (family_opening family')) (sym same)
    (subst (λ f. IsRead row args f) (sym (ap family_opening opened ∙ family_opening-opening family)) h)
