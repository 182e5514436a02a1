-- Arguments that pass all tests fit.
use Rattle.std.proofs.Common.{◌≡◌, length, None, sym, subst, arith}
use Rattle.std.proofs.lemmas.Grind.{common_steps}
use Rattle.ff_ops.specs.Arguments.{AllFit}
use Rattle.ff_ops.specs.Operation.{first_unsuited, first_outside}
use Rattle.ff_ops.specs.Table.{kinds_of}
use Rattle.ff_ops.proofs.Fitting.{AllFit-passed}
use Rattle.ff_ops.proofs.op.Op.read.Goals as goal

pub of_row-requires : goal.of_row-requires
of_row-requires c =
    let args = c.args.args.now in
    let kinds = kinds_of c.in-Some.row in
    let len : length args ≡ length kinds = grind (arith, common_steps) in
    let suited : first_unsuited args kinds ≡ None = grind (arith, common_steps) in
    let within : first_outside args kinds ≡ None = grind (arith, common_steps) in
    subst (λ list. AllFit list kinds) (sym c.in_ok-copies.ensures) (AllFit-passed args kinds len suited within)
