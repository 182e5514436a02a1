-- Rounds that are not over hold all that there is: no further level adds anything.
use Rattle.std.specs.Prelude.{◌≡◌, ℕ, zero, suc, ◌<◌, ◌≤◌, List, [], ◌∷◌, ◌++◌, length, refl}
use Rattle.std.specs.List.{filter}
use Rattle.std.proofs.Common.{ap, ◌∙◌, sym, arith, length-append}
use Rattle.ff_rec.specs.Lines.{Rec}
use Rattle.ff_net.specs.declared.net.Test.{Test}
use Rattle.ff_net.specs.Levels.{meets, again, levels, over_levels, IsOver}

module _ (send give : List Rec → List Rec) (p : Test) (quiet : send [] ≡ []) (gives_nothing : give [] ≡ []) where
  over_levels-nothing : (n : ℕ) → over_levels give send p n [] ≡ []
  over_levels-nothing zero = refl
  over_levels-nothing (suc n) =
      ap (λ ys. ys ++ over_levels give send p n (again send p [])) gives_nothing
      ∙ ap (λ ys. over_levels give send p n (filter (meets p) ys)) quiet
      ∙ over_levels-nothing n

  over_levels-ends : (m n : ℕ) (xs : List Rec) → m < n → length (levels send p (suc m) xs) ≤ m → over_levels give send p n xs ≡ over_levels give send p (suc m) xs
  over_levels-ends m zero xs more within = absurd (omega (arith, more))
  over_levels-ends m (suc n) [] more within = over_levels-nothing (suc n) ∙ sym (over_levels-nothing (suc m))
  over_levels-ends zero (suc n) (x ∷ xs) more within = absurd (omega (arith, within))
  over_levels-ends (suc m) (suc n) (x ∷ xs) more within =
      let left = levels send p (suc m) (again send p (x ∷ xs)) in
      let fewer : length left ≤ m = omega (arith, within, length-append xs left) in
      ap (λ ys. give (x ∷ xs) ++ ys) (over_levels-ends m n (again send p (x ∷ xs)) (omega (arith, more)) fewer)

-- where a wrap isn't over its limit, what its first m + 1 levels give is what all levels give
abbrev pub RoundsEnd : Type 0
RoundsEnd = (send give : List Rec → List Rec) (p : Test) (m n : ℕ) (xs : List Rec)
    → send [] ≡ [] → give [] ≡ [] → ¬ IsOver send p m xs → m < n → over_levels give send p n xs ≡ over_levels give send p (suc m) xs

pub rounds_end : RoundsEnd
rounds_end send give p m n xs quiet nothing within more = over_levels-ends send give p quiet nothing m n xs more (omega (arith, within))
