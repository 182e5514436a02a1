-- The place whose turn it is.
use Rattle.std.specs.Prelude.{◌≡◌, ◌≢◌, ◌%◌, ◌<◌, ◌≤◌, ◌==◌, ℕ, suc, true, false}
use Rattle.std.proofs.Common.{sym, ap, ◌∙◌, ⊎_elim, arith, cond, mod-lt}
use Rattle.std.proofs.lemmas.Bool.{eq-eqb, cases_eq}
use Rattle.std.proofs.lemmas.Bool.Decides.{eqb_tells}
use Rattle.std.proofs.Math.Nat.{suc-mod, mod_self, mod-eq_of_lt}
use Rattle.ff_unit.specs.Deals.{next_place}
use Rattle.ff_unit.specs.declared.dealing.Dealing.{Dealing}
use Rattle.ff_unit.specs.declared.dealing.Dealing.TheVariants.{InTurn, OnDemand, ByKey, GroupsInTurn, GroupsOnDemand}

-- the place whose turn it is, behind `k` records
abbrev pub IsTurn : Dealing → ℕ → ℕ → ℕ → Type 0
IsTurn InTurn n k turn = turn ≡ k % n
IsTurn OnDemand n k turn = Unit {0}
IsTurn (ByKey f) n k turn = Unit {0}
IsTurn GroupsInTurn n k turn = turn ≡ k % n
IsTurn GroupsOnDemand n k turn = Unit {0}

-- the next turn
next_place-wraps : (n w : ℕ) → suc w ≡ n → next_place n w ≡ 0
next_place-wraps n w e = ap (λ b. cond b 0 (suc w)) (eq-eqb (suc w) n e)

next_place-goes : (n w : ℕ) → suc w ≢ n → next_place n w ≡ suc w
next_place-goes n w e =
    ⊎_elim (λ (h : ((suc w == n) ≡ true) × (suc w ≡ n)). absurd (e h.1)) (λ (h : ((suc w == n) ≡ false) × (suc w ≢ n)). ap (λ b. cond b 0 (suc w)) h.0) (eqb_tells (suc w) n)

pub next_place-lt : (n w : ℕ) → w < n → next_place n w < n
next_place-lt n w below = ⊎_elim (λ e. wraps e) (λ e. goes e) (cases_eq (suc w) n)
  where
    wraps : suc w ≡ n → next_place n w < n
    wraps e = let is = next_place-wraps n w e in omega (arith, is, below)

    goes : (suc w ≡ n → ⊥) → next_place n w < n
    goes e = let is = next_place-goes n w e in let other : suc w ≢ n = e in omega (arith, is, below, other)

pub next_place-mod : (n k w : ℕ) → 1 ≤ n → w ≡ k % n → next_place n w ≡ suc k % n
next_place-mod n k w some is = ⊎_elim (λ e. wraps e) (λ e. goes e) (cases_eq (suc w) n)
  where
    step : suc w % n ≡ suc k % n
    step = ap (λ i. suc i % n) is ∙ sym (suc-mod k n)

    wraps : suc w ≡ n → next_place n w ≡ suc k % n
    wraps e = next_place-wraps n w e ∙ sym (mod_self n) ∙ ap (λ i. i % n) (sym e) ∙ step

    goes : (suc w ≡ n → ⊥) → next_place n w ≡ suc k % n
    goes e =
        let below : k % n < n = mod-lt k some in
        let other : suc w ≢ n = e in
        let inside : suc w < n = omega (arith, below, is, other) in
        next_place-goes n w e ∙ sym (mod-eq_of_lt inside) ∙ step
