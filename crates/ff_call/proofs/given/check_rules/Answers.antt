-- The rules were checked with the limits of the version.
use Rattle.std.proofs.Common.{sym, ap, ◌∙◌}
use Rattle.ff_net.specs.Rules.{first_fault}
use Rattle.ff_net.specs.Tree.{tree_of}
use Rattle.ff_ops.specs.Operation.{op_node}
use Rattle.ff_call.specs.Texts.{version}
use Rattle.ff_call.proofs.given.check_rules.Goals as goal

pub returns-in-Ok-clause-kept : goal.returns-in-Ok-clause-kept
returns-in-Ok-clause-kept c =
    ap (λ net. first_fault op_node version (tree_of net)) c.in-Ok.ensures.given.0
    ∙ ap (λ v. first_fault op_node v (tree_of c.args.described.net)) (sym c.requires)
    ∙ sym c.in-Ok.ensures.fault

pub returns-in-Err-clause-fault : goal.returns-in-Err-clause-fault
returns-in-Err-clause-fault c =
    ap (λ v. first_fault op_node v (tree_of c.args.described.net)) (sym c.requires) ∙ sym c.in-Err.ensures.fault
