-- What is made of the row and the arguments has them.
use Rattle.std.proofs.Common.{◌∷◌, ◌++◌, List, sym, ap, subst, ◌∙◌}
use Rattle.ff_ops.specs.Arguments.{AllFit}
use Rattle.ff_ops.specs.Operation.{OpState}
use Rattle.ff_ops.specs.Table.{name_of}
use Rattle.ff_ops.specs.declared.arg.ArgKind.{ArgKind}
use Rattle.ff_text.specs.OperationTokens.{spelling}
use Rattle.ff_text.specs.Printing.{tokens_of}
use Rattle.ff_text.specs.Tokens.{Word}
use Rattle.ff_text.proofs.OpParts.{IsNew-operation}
use Rattle.ff_text.proofs.operation.operation.Goals as goal

pub of_row-requires : goal.of_row-requires
of_row-requires c = subst (λ (kinds : List ArgKind). AllFit c.in_ok-args.args.items kinds) c.kinds.ensures c.in_ok-args.ensures.fit

pub returns-clause-fits : goal.returns-clause-fits
returns-clause-fits c =
    IsNew-operation c.args.row c.in_ok-args.args.items c.in_ok-of_row.field-0 c.in_ok-of_row.ensures
    (subst (λ (kinds : List ArgKind). AllFit c.in_ok-args.args.items kinds) c.kinds.ensures c.in_ok-args.ensures.fit)

pub returns-clause-text : goal.returns-clause-text
returns-clause-text c =
    ap (λ ts. Word (name_of c.args.row) ∷ ts) c.in_ok-args.ensures.text
    ∙ ap (λ (o : OpState). spelling o ++ tokens_of c.arguments_of.new.reader) (sym c.in_ok-of_row.ensures)
