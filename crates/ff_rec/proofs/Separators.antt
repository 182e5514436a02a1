-- The first tab or newline, and bytes that hold none.
use Rattle.std.proofs.Common.{◌≡◌, ℕ, suc, ◌==◌, List, [], ◌∷◌, length, Some, lt-ltb, eq-eqb, arith}
use Rattle.std.proofs.lemmas.Bool.{or_left, or_right, false_from_ne_true, cond-true}
use Rattle.std.proofs.lemmas.List.Sums.{position_or_len_is}
use Rattle.std.specs.List.{position}
use Rattle.memchr.specs.Find.{Nowhere, NoneBefore, Passes}
use Rattle.ff_rec.specs.Field.{is_separator}
use Rattle.ff_rec.specs.Lines.{IsPlain}

-- bytes at none of whose places a separator stands are plain
pub IsPlain-places : (bytes : List ℕ) → Nowhere (Passes is_separator bytes) 0 (length bytes) → IsPlain bytes
IsPlain-places [] none = tt
IsPlain-places (c ∷ cs) none = (
  (
    λ tab. none 0 (omega arith) (omega arith) (or_left (c == 9) (c == 10) (eq-eqb c 9 tab)),
    λ newline. none 0 (omega arith) (omega arith) (or_right (c == 9) (c == 10) (eq-eqb c 10 newline)),
  ),
  IsPlain-places cs (λ k low high. none (suc k) (omega arith) (omega arith)),
)

-- the first place of a separator
pub position-first : (bytes : List ℕ) (at : ℕ) → NoneBefore (Passes is_separator bytes) 0 (length bytes) at → Passes is_separator bytes at
    → position is_separator bytes ≡ Some at
position-first bytes at first is =
    let same = position_or_len_is is_separator bytes at 0 (omega (arith, first.high)) (λ k below. false_from_ne_true _ (first.before k (omega arith) below)) (λ _. is) in
    rw same (cond-true _ _ _ (lt-ltb at (length bytes) first.high))
