-- Lists within others.
use Rattle.std.proofs.Common.{◌≤◌, List, [], ◌∷◌, ◌++◌, length, ap, arith}
use Rattle.ff_rec.specs.Lines.{Rec}
use Rattle.ff_rec.specs.Times.{same_record}
use Rattle.ff_rec.specs.Weights.{Same, weigh}
use Rattle.ff_rec.proofs.Counts.{Decides-same_record}
use Rattle.ff_rec.proofs.WeightLaws.{Same-refl, weigh-middle, weigh-one, mark, mark-same, IsFound-weigh}
use Rattle.ff_net.specs.Logs.{Within}

-- a list within another is no longer
pub Within-length : {A : Type 0} {xs ys : List A} → Within xs ys → length xs ≤ length ys
Within-length {A} {xs} {ys} within = omega (arith, within.by (λ _. 1), weigh-one xs, weigh-one ys)

-- what is within a list goes on to all of it
pub Within-rest : (xs ys : List Rec) → Within xs ys → (vs : List Rec) × Same (xs ++ vs) ys
Within-rest [] ys within = (ys, Same-refl ys)
Within-rest (x ∷ xs) ys within =
    let found = IsFound-weigh same_record Decides-same_record x ys
    (omega (arith, within.by (mark same_record x), mark-same same_record Decides-same_record x)) in
    let fewer : Within xs (found.front ++ found.back) =
    record { by = λ h. omega (arith, within.by h, ap (weigh h) found.is, weigh-middle h x found.front found.back) } in
    let rest = Within-rest xs (found.front ++ found.back) fewer in
    (rest.0, record { by = λ h. omega (arith, rest.1.by h, ap (weigh h) found.is, weigh-middle h x found.front found.back) })
