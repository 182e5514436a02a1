-- Which of the rejected records are handed over.
use Rattle.std.specs.Prelude.{◌≡◌, Bool, true, false, List, []}
use Rattle.ff_rec.specs.Lines.{Rec}
use Rattle.ff_rec.specs.Weights.{Same}

-- where they are kept, each as often as the network rejects it, and else none
pub record AreKept (keep : Bool) (rejected kept : List Rec) : Type 0 where
  pub all : keep ≡ true → Same rejected kept
  pub none : keep ≡ false → kept ≡ []
