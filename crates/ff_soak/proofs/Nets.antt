-- The network of a soak keeps all rules.
use Rattle.std.proofs.Common.{◌≡◌, ◌⊎◌, inl, inr, ℕ, zero, suc, ◌<◌, ◌≤◌, Bool, true, false, ◌&&◌, Option, None, Some, refl, subst, arith}
use Rattle.std.proofs.lemmas.Bool.{cases_lt}
use Rattle.std.specs.Prelude.{is_none}
use Rattle.ff_net.specs.Rules.{first_fault}
use Rattle.ff_net.specs.declared.net.Version.TheVariants.{Two}
use Rattle.ff_ops.specs.Operation.{op_node}
use Rattle.ff_soak.specs.Networks.{soak_net}

-- whether the networks of 1 to `k` workers keep all rules
abbrev all_good : ℕ → Bool
all_good zero = true
all_good (suc k) = is_none (first_fault op_node Two (soak_net (suc k))) && all_good k

all_good-sixteen : all_good 16 ≡ true
all_good-sixteen = refl

both : (b c : Bool) → (b && c) ≡ true → (b ≡ true) × (c ≡ true)
both true true e = (refl, refl)
both true false e = absurd (cc)
both false c e = absurd (cc)

none : {A : Type 0} (o : Option A) → is_none o ≡ true → o ≡ None
none None e = refl
none (Some a) e = absurd (cc)

good-below : (k w : ℕ) → all_good k ≡ true → 1 ≤ w → w ≤ k → first_fault op_node Two (soak_net w) ≡ None
good-below zero w h some few = absurd (omega arith)
good-below (suc k) w h some few = by (cases_lt w (suc k)) (both (is_none (first_fault op_node Two (soak_net (suc k)))) (all_good k) h) (good-below k w)
  where
    by : (w < suc k) ⊎ (suc k ≤ w) → (is_none (first_fault op_node Two (soak_net (suc k))) ≡ true) × (all_good k ≡ true)
        → (all_good k ≡ true → 1 ≤ w → w ≤ k → first_fault op_node Two (soak_net w) ≡ None) → first_fault op_node Two (soak_net w) ≡ None
    by (inl less) parts rest = rest parts.1 some (omega arith)
    by (inr last) parts rest =
        subst (λ v. first_fault op_node Two (soak_net v) ≡ None) (let e : suc k ≡ w = omega arith in e) (none (first_fault op_node Two (soak_net (suc k))) parts.0)

pub first_fault-soak_net : (w : ℕ) → 1 ≤ w → w ≤ 16 → first_fault op_node Two (soak_net w) ≡ None
first_fault-soak_net w some few = good-below 16 w all_good-sixteen some few
