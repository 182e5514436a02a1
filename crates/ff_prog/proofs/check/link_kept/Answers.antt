-- The sixth rule, by what the map knows of the names that are put out.
use Rattle.std.proofs.Common.{◌≡◌, ◌∙◌, suc, ◌+◌, Some, None, true, sym, ap, subst, length, arith}
use Rattle.std.specs.Prelude.{IfNone, position}
use Rattle.std.specs.List.{list_any}
use Rattle.ff_prog.specs.Checking.{IsRuleFault, at_rule}
use Rattle.ff_prog.specs.Known.{KnowsLinks}
use Rattle.ff_prog.specs.Rules.{is_out, puts_unwritten}
use Rattle.ff_prog.proofs.LinkLaws.{position-puts_unwritten}
use Rattle.ff_prog.proofs.Lowest.{lowest_broken-sixth}
use Rattle.ff_prog.proofs.check.link_kept.Goals as goal

pub returns-in-Some-first_unwritten_out-clause-fault : goal.returns-in-Some-first_unwritten_out-clause-fault
returns-in-Some-first_unwritten_out-clause-fault c =
    let ss = c.args.statements.now in
    let k = c.in-Some-first_unwritten_out.k in
    let rows = c.link_operands.new.writers.entries in
    let knows = subst (λ o. IfNone o (KnowsLinks rows ss (length ss))) c.in_default-3.is c.in_ok-k-2.ensures.writers in
    let some : list_any is_out ss ≡ true = sym c.has_out.ensures ∙ c.if-not-has_out.false in
    let last : position (puts_unwritten ss) ss ≡ Some k = sym (position-puts_unwritten rows ss knows) ∙ sym c.in-Some-first_unwritten_out.ensures.first in
    let next : suc k ≡ k + 1 = omega arith in
    subst (IsRuleFault ss) (sym c.broken-in-Some-first_unwritten_out.ensures)
    (lowest_broken-sixth ss (sym c.in_default.ensures.first) (sym c.in_ok-k.ensures.first ∙ c.in_default-2.is) (sym c.in_ok-k-2.ensures.first ∙ c.in_default-3.is) (sym c.in_default-first_with_twins.ensures.first) (sym c.in_default-first_bad_out.ensures.first) some
    ∙ ap (λ o. at_rule 6 o None) last
    ∙ ap (λ j. Some (record { rule = 6; statement = j })) next)

pub returns-clause-kept : goal.returns-clause-kept
returns-clause-kept c =
    let ss = c.args.statements.now in
    let rows = c.link_operands.new.writers.entries in
    let knows = subst (λ o. IfNone o (KnowsLinks rows ss (length ss))) c.in_default-3.is c.in_ok-k-2.ensures.writers in
    let some : list_any is_out ss ≡ true = sym c.has_out.ensures ∙ c.if-not-has_out.false in
    let last : position (puts_unwritten ss) ss ≡ None = sym (position-puts_unwritten rows ss knows) ∙ sym c.in_default-first_unwritten_out.ensures.first in
    lowest_broken-sixth ss (sym c.in_default.ensures.first) (sym c.in_ok-k.ensures.first ∙ c.in_default-2.is) (sym c.in_ok-k-2.ensures.first ∙ c.in_default-3.is) (sym c.in_default-first_with_twins.ensures.first) (sym c.in_default-first_bad_out.ensures.first) some
    ∙ ap (λ o. at_rule 6 o None) last
