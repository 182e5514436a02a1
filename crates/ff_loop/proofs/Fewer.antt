-- Lists within others that are no longer.
use Rattle.std.proofs.Common.{◌≡◌, ℕ, ◌+◌, ◌-◌, ◌*◌, ◌≤◌, List, [], ◌∷◌, length, ap, arith}
use Rattle.std.proofs.Math.Nat.{mul-suc}
use Rattle.ff_rec.specs.Weights.{weigh}
use Rattle.ff_rec.proofs.WeightLaws.{weigh-one}
use Rattle.ff_net.specs.Logs.{Within}

-- what elements lack of `m` each
weigh-lack : {A : Type 0} (h : A → ℕ) (m : ℕ) (xs : List A) → weigh h xs ≤ m → weigh (λ x. m - h x) xs + weigh h xs ≡ m * length xs
weigh-lack h m [] few = omega arith
weigh-lack h m (x ∷ xs) few = omega (arith, weigh-lack h m xs (omega arith), mul-suc m (length xs))

-- a list within one that isn't longer holds all of it
pub Within-back : {A : Type 0} (xs ys : List A) → Within xs ys → length ys ≤ length xs → Within ys xs
Within-back {A} xs ys within few = record {
  by = λ h.
      let m = weigh h xs + weigh h ys in
      let same : length xs ≡ length ys = omega (arith, within.by (λ _. 1), weigh-one xs, weigh-one ys) in
      omega (
        arith,
        weigh-lack h m xs (omega arith),
        weigh-lack h m ys (omega arith),
        within.by (λ x. m - h x),
        ap (λ n. m * n) same,
      );
}
