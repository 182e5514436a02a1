-- Counting tabs part by part.
use Rattle.std.proofs.Common.{◌≡◌, ℕ, zero, suc, ◌+◌, ◌-◌, ◌≤◌, Bool, true, false, cond, eqb, List, [], ◌∷◌, ◌++◌, length, replicate, take, drop, refl, sym, ap, ◌∙◌, arith, take-append-drop}
use Rattle.std.proofs.lemmas.List.{drop-replicate}
use Rattle.std.specs.Prelude.{◌==◌, if◌then◌else◌}
use Rattle.ff_rec.specs.Lines.{tabs}
use Rattle.ff_rec.proofs.WeightLaws.{weigh-append}

-- the tabs of a front and of what stands behind it
pub tabs-split : (bs : List ℕ) (n : ℕ) → tabs (take n bs) + tabs (drop n bs) ≡ tabs bs
tabs-split bs n = sym (weigh-append _ (take n bs) (drop n bs)) ∙ ap tabs (take-append-drop n bs)

-- they are bytes of the line
pub tabs-le-length : (bs : List ℕ) → tabs bs ≤ length bs
tabs-le-length [] = omega arith
tabs-le-length (c ∷ cs) = omega (arith, one_or_none (eqb c 9), tabs-le-length cs)
  where
    one_or_none : (b : Bool) → (cond b 1 0) ≤ 1
    one_or_none true = omega arith
    one_or_none false = omega arith

-- zeros hold none
tabs-zeros : (m n : ℕ) → tabs (take m (replicate n 0)) ≡ 0
tabs-zeros zero n = refl
tabs-zeros (suc m) zero = refl
tabs-zeros (suc m) (suc n) = omega (arith, tabs-zeros m n)

-- the tabs of a line with zeros behind it
pub tabs-padded : (line : List ℕ) (m n k : ℕ) → length line ≤ m → tabs (take m (line ++ drop k (replicate n 0))) ≡ tabs line
tabs-padded [] m n k h = ap (λ (q : List ℕ). tabs (take m q)) (drop-replicate k n 0) ∙ tabs-zeros m (n - k)
tabs-padded (c ∷ cs) zero n k h = absurd (omega arith)
tabs-padded (c ∷ cs) (suc m) n k h = ap (λ (q : ℕ). (if c == 9 then 1 else 0) + q) (tabs-padded cs m n k (omega arith))
