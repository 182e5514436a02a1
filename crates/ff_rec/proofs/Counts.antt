-- Lists of records are `Same` exactly where each record stands in both as often.
use Rattle.std.proofs.Common.{◌≡◌, ◌+◌, List, [], ◌∷◌, Decides, refl, sym, ap, ◌∙◌}
use Rattle.std.specs.Cmp.Lexicographic.{pointwise_decides, bytes_decides}
use Rattle.ff_rec.specs.Lines.{Rec}
use Rattle.ff_rec.specs.Times.{same_record, times, SameIsCounts}
use Rattle.ff_rec.specs.Weights.{weigh, Same}
use Rattle.ff_rec.proofs.WeightLaws.{mark, IsPicked, Same-pick, Same-marks}

-- the test tells records apart
pub Decides-same_record : (u x : Rec) → Decides (same_record u x) (u ≡ x)
Decides-same_record = pointwise_decides bytes_decides

-- a count is a weight
pub times-weigh : (u : Rec) (xs : List Rec) → times u xs ≡ weigh (mark same_record u) xs
times-weigh u [] = refl
times-weigh u (x ∷ xs) = ap (λ n. mark same_record u x + n) (times-weigh u xs)

-- the place of the first record of the one list in the other
pub Same-pick_record : (x : Rec) (xs ys : List Rec) → Same (x ∷ xs) ys → IsPicked x xs ys
Same-pick_record = Same-pick same_record Decides-same_record

pub Same-counts : SameIsCounts
Same-counts xs ys = (
  λ s u. times-weigh u xs ∙ s.by (mark same_record u) ∙ sym (times-weigh u ys),
  λ counts. Same-marks same_record Decides-same_record xs ys (λ u. sym (times-weigh u xs) ∙ counts u ∙ times-weigh u ys),
)
