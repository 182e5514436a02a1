-- The law of the folds.
use Rattle.std.specs.Prelude.{◌≡◌, ℤ, FitsSigned}
use Rattle.std.specs.Int.{w64}
use Rattle.ff_fn.specs.declared.folds.FoldRule.{FoldRule}
use Rattle.ff_fn.specs.Rules.{fold_value, IsState}

-- two numbers lead to one state in either order
abbrev pub StepsCommute : Type 0
StepsCommute =
    (rule : FoldRule) (state x y : ℤ) → IsState rule state → FitsSigned w64 x → FitsSigned w64 y
    → fold_value rule (fold_value rule state x) y ≡ fold_value rule (fold_value rule state y) x
