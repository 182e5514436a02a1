-- Schedules one behind another.
use Rattle.std.proofs.Common.{◌≡◌, ℕ, zero, suc, ◌+◌, List, [], ◌∷◌, ◌++◌, sym, ap, ◌∙◌, subst, arith, append-nil, append_assoc}
use Rattle.ff_plan.specs.Rows.{range}
use Rattle.ff_unit.specs.Units.{Doing}
use Rattle.ff_steps.specs.Core.{CoreState}
use Rattle.ff_steps.specs.Events.{Follows}
use Rattle.ff_sweeps.specs.Schedules.{sweep, sweeps_of}

pub Follows-join : {U : Type 0} (d : Doing U) (P : CoreState U → Type 0) (ps qs : List ℕ) (a b c : CoreState U) → Follows d P ps a b → Follows d P qs b c → Follows d P (ps ++ qs) a c
Follows-join d P [] qs a b c first second = subst (λ x. Follows d P qs x c) first second
Follows-join d P (p ∷ ps) qs a b c first second = (first.0, first.1, first.2, Follows-join d P ps qs first.0 b c first.3 second)

range-snoc : (e n : ℕ) → range e (suc n) ≡ range e n ++ (e + n) ∷ []
range-snoc e zero = let same : e ≡ e + 0 = omega arith in ap (λ x. x ∷ []) same
range-snoc e (suc n) = let same : suc e + n ≡ e + suc n = omega arith in ap (λ l. e ∷ l) (range-snoc (suc e) n ∙ ap (λ x. range (suc e) n ++ x ∷ []) same)

-- one party more
pub Follows-next : {U : Type 0} (d : Doing U) (P : CoreState U → Type 0) (p : ℕ) (a b c : CoreState U) → Follows d P (range 0 p) a b → Follows d P (p ∷ []) b c → Follows d P (range 0 (p + 1)) a c
Follows-next d P p a b c first second =
    let one : suc p ≡ p + 1 = omega arith in
    let here : 0 + p ≡ p = omega arith in
    subst (λ l. Follows d P (range 0 l) a c) one
    (subst (λ l. Follows d P l a c) (sym (range-snoc 0 p ∙ ap (λ x. range 0 p ++ x ∷ []) here)) (Follows-join d P (range 0 p) (p ∷ []) a b c first second))

pub sweeps-snoc : (units n : ℕ) → sweeps_of units (suc n) ≡ sweeps_of units n ++ sweep units
sweeps-snoc units zero = append-nil (sweep units)
sweeps-snoc units (suc n) = ap (λ l. sweep units ++ l) (sweeps-snoc units n) ∙ sym (append_assoc (sweep units) (sweeps_of units n) (sweep units))
