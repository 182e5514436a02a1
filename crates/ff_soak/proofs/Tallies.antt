-- The records of a text, line by line.
use Rattle.std.proofs.Common.{◌≡◌, ℕ, ◌+◌, ◌*◌, ◌^◌, ◌≤◌, List, ◌∷◌, ◌++◌, length, ap, ◌∙◌}
use Rattle.ff_rec.specs.Lines.{cut, records}
use Rattle.ff_rec.specs.Pieces.{Lacks}
use Rattle.ff_rec.proofs.WholeLines.{records-newline}
use Rattle.ff_ops.specs.FoldSums.{sum_above, sum_below}

-- a line and its newline
pub records-next : (bytes line behind : List ℕ) → bytes ≡ line ++ 10 ∷ behind → Lacks 10 line → records bytes ≡ cut 9 line ∷ records behind
records-next bytes line behind whole clean = ap records whole ∙ records-newline line behind clean

-- what was counted of the lines before the rest of a text
pub record HasTallied (bytes rest : List ℕ) (keys plus minus : ℕ) : Type 0 where
  pub keys_so_far : keys + length (records rest) ≡ length (records bytes)
  pub above_so_far : plus + sum_above 2 (records rest) ≡ sum_above 2 (records bytes)
  pub below_so_far : minus + sum_below 2 (records rest) ≡ sum_below 2 (records bytes)
  pub few : keys + length rest ≤ length bytes
  pub above_small : plus ≤ keys * 2 ^ 63
  pub below_small : minus ≤ keys * 2 ^ 63
