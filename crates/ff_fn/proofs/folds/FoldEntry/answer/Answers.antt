use Rattle.std.specs.Prelude.{FitsSigned}
use Rattle.std.specs.Int.{w64, w128}
use Rattle.std.proofs.Common.{◌≡◌, ◌∙◌, ap, to_z, of_z, sym, subst, ℤ}
use Rattle.std.proofs.lemmas.Int.{to_z-of_z}
use Rattle.ff_fn.specs.Rules.{fold_value, IsState}
use Rattle.ff_fn.proofs.Steps.{fold_stays}
use Rattle.ff_fn.proofs.folds.FoldEntry.answer.Goals as goal

pub returns-clause-value : goal.returns-clause-value
returns-clause-value g c =
    let state : to_z w128 (of_z w128 c.args.state) ≡ c.args.state = to_z-of_z w128 c.args.state c.ranges.state in
    let x : to_z w64 (of_z w64 c.args.x) ≡ c.args.x = to_z-of_z w64 c.args.x c.ranges.x in
    let kept =
    c.args.self.now.keeps (to_z w128 (of_z w128 c.args.state)) (to_z w64 (of_z w64 c.args.x))
    (subst (λ (z : ℤ). IsState c.args.self.now.rule z) (sym state) c.requires)
    (subst (λ (z : ℤ). FitsSigned w64 z) (sym x) c.ranges.x) in
    to_z-of_z w128 c.f.result (record { sfits = c.f.type_inv })
    ∙ kept.1 c.f.result c.f.ensures.0
    ∙ ap (λ (z : ℤ). fold_value c.args.self.now.rule z (to_z w64 (of_z w64 c.args.x))) state
    ∙ ap (λ (z : ℤ). fold_value c.args.self.now.rule c.args.state z) x

pub returns-clause-stays : goal.returns-clause-stays
returns-clause-stays g c =
    subst (λ (z : ℤ). IsState c.args.self.now.rule z) (sym (returns-clause-value g c))
    (fold_stays c.args.self.now.rule c.args.state c.args.x c.requires c.ranges.x)
