-- Rounds of records in another order: each level holds the same records.
use Rattle.std.proofs.Common.{◌≡◌, ℕ, zero, suc, not, List, [], length, arith}
use Rattle.ff_rec.specs.Lines.{Rec}
use Rattle.ff_rec.specs.Weights.{Same}
use Rattle.ff_rec.proofs.WeightLaws.{Same-refl, Same-append, Same-filter, Same-length}
use Rattle.ff_net.specs.declared.net.Test.{Test}
use Rattle.ff_net.specs.Levels.{meets, again, leaves_with, levels, over_levels, results, IsOver}

-- what goes by counts gives for records in another order the same records
abbrev pub KeepsSame : (List Rec → List Rec) → Type 0
KeepsSame give = (xs ys : List Rec) → Same xs ys → Same (give xs) (give ys)

module _ (send : List Rec → List Rec) (keeps : KeepsSame send) (p : Test) where
  again-Same : (xs ys : List Rec) → Same xs ys → Same (again send p xs) (again send p ys)
  again-Same xs ys same = Same-filter (meets p) (keeps xs ys same)

  leaves_with-Same : KeepsSame (leaves_with send p)
  leaves_with-Same xs ys same = Same-filter (λ r. not (meets p r)) (keeps xs ys same)

  pub levels-Same : (n : ℕ) (xs ys : List Rec) → Same xs ys → Same (levels send p n xs) (levels send p n ys)
  levels-Same zero xs ys same = Same-refl []
  levels-Same (suc n) xs ys same = Same-append same (levels-Same n (again send p xs) (again send p ys) (again-Same xs ys same))

  pub over_levels-Same : (give : List Rec → List Rec) → KeepsSame give → (n : ℕ) (xs ys : List Rec) → Same xs ys
      → Same (over_levels give send p n xs) (over_levels give send p n ys)
  over_levels-Same give gives zero xs ys same = Same-refl []
  over_levels-Same give gives (suc n) xs ys same =
      Same-append (gives xs ys same) (over_levels-Same give gives n (again send p xs) (again send p ys) (again-Same xs ys same))

  pub results-Same : (m : ℕ) (xs ys : List Rec) → Same xs ys → Same (results send p m xs) (results send p m ys)
  results-Same m xs ys same = over_levels-Same (leaves_with send p) leaves_with-Same (suc m) xs ys same

  pub IsOver-Same : (m : ℕ) (xs ys : List Rec) → Same xs ys → IsOver send p m ys → IsOver send p m xs
  IsOver-Same m xs ys same over =
      let length_is : length (levels send p (suc m) xs) ≡ length (levels send p (suc m) ys) = Same-length (levels-Same (suc m) xs ys same) in
      omega (arith, over, length_is)
