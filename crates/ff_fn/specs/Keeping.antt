-- What a function has to answer to keep a rule. `pre` is which calls may be made, and `post` which results they may give.
use Rattle.std.specs.Prelude.{◌≡◌, Bool, Option, ℤ, FitsSigned}
use Rattle.std.specs.Int.{w64}
use Rattle.ff_fn.specs.declared.maps.MapRule.{MapRule}
use Rattle.ff_fn.specs.declared.predicates.TestRule.{TestRule}
use Rattle.ff_fn.specs.declared.folds.FoldRule.{FoldRule}
use Rattle.ff_fn.specs.Rules.{map_value, test_value, fold_value, IsState}

-- it may be called on every number, and makes of it what the rule says
abbrev pub KeepsMap : MapRule → (pre : ℤ → Type 0) (post : ℤ → Option ℤ → Type 0) → Type 0
KeepsMap rule pre post =
    (x : ℤ) → FitsSigned w64 x → pre x × ((r : Option ℤ) → post x r → r ≡ map_value rule x)

-- it may be called on every number, and tells what the rule says
abbrev pub KeepsTest : TestRule → (pre : ℤ → Type 0) (post : ℤ → Bool → Type 0) → Type 0
KeepsTest rule pre post =
    (x : ℤ) → FitsSigned w64 x → pre x × ((r : Bool) → post x r → r ≡ test_value rule x)

-- it may be called in every state of the rule and on every number, and gives the state that the rule says
abbrev pub KeepsFold : FoldRule → (pre : ℤ → ℤ → Type 0) (post : ℤ → ℤ → ℤ → Type 0) → Type 0
KeepsFold rule pre post =
    (state x : ℤ) → IsState rule state → FitsSigned w64 x
    → pre state x × ((r : ℤ) → post state x r → r ≡ fold_value rule state x)
