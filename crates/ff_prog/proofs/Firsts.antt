-- The search for the first number that passes a test, one step on.
use Rattle.std.proofs.Common.{◌≡◌, ℕ, suc, ◌+◌, ◌-◌, ◌<◌, Bool, true, false, Some, ap, ◌∙◌, arith}
use Rattle.std.proofs.lemmas.Bool.{cond-true, cond-false}
use Rattle.ff_prog.specs.Rules.{first_from}

-- where it fails, the search goes on behind it
pub first-next : (p : ℕ → Bool) (k len : ℕ) → k < len → p k ≡ false → first_from p k (len - k) ≡ first_from p (k + 1) (len - (k + 1))
first-next p k len below misses =
    let e : len - k ≡ suc (len - (k + 1)) = omega arith in
    let next : suc k ≡ k + 1 = omega arith in
    ap (first_from p k) e
    ∙ cond-false (p k) (Some k) (first_from p (suc k) (len - (k + 1))) misses
    ∙ ap (λ i. first_from p i (len - (k + 1))) next

-- where it holds, the search ends
pub first-here : (p : ℕ → Bool) (k len : ℕ) → k < len → p k ≡ true → first_from p k (len - k) ≡ Some k
first-here p k len below holds =
    let e : len - k ≡ suc (len - (k + 1)) = omega arith in
    ap (first_from p k) e ∙ cond-true (p k) (Some k) (first_from p (suc k) (len - (k + 1))) holds
