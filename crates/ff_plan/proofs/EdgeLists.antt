-- Lists on edges that are numbered in a row, and on edges that stand a step behind one another.
use Rattle.std.proofs.Common.{◌≡◌, ℕ, zero, suc, ◌+◌, ◌*◌, ◌<◌, List, [], ◌∷◌, ◌++◌, length, refl, sym, ap, subst, append-nil, arith}
use Rattle.ff_rec.specs.Streams.{at}
use Rattle.ff_node.specs.Runs.{Message}
use Rattle.ff_plan.specs.Rows.{range, stride}
use Rattle.ff_plan.proofs.Opens.{AllOn}
use Rattle.ff_plan.proofs.UnitLists.{OnRange, OnRange-AllOn, listed, at-listed, AllOn-one}

pub length-stride : (step e n : ℕ) → length (stride step e n) ≡ n
length-stride step e zero = refl
length-stride step e (suc n) = ap suc (length-stride step (e + step) n)

-- one step more
pub suc-times : (j step : ℕ) → suc j * step ≡ step + j * step
suc-times j step = omega arith

module _ (On : ℕ → List Message → Type 0) where
  -- of edges in a row, `e + j` is the one with number j; others may stand behind them
  pub AllOn-front : (e n : ℕ) (fs : List ℕ) (mss : List (List Message)) → AllOn On (range e n ++ fs) mss → (j : ℕ) → j < n → On (e + j) (at mss j)
  AllOn-front e zero fs mss all j below = absurd (omega (arith, below))
  AllOn-front e (suc n) fs [] all j below = absurd all
  AllOn-front e (suc n) fs (ms ∷ mss) all zero below =
      let same : e ≡ e + 0 = omega arith in
      subst (λ k. On k ms) same all.0
  AllOn-front e (suc n) fs (ms ∷ mss) all (suc j) below =
      let same : suc e + j ≡ e + suc j = omega arith in
      subst (λ k. On k (at mss j)) same (AllOn-front (suc e) n fs mss all.1 j (omega (arith, below)))

  pub AllOn-range : (e n : ℕ) (mss : List (List Message)) → AllOn On (range e n) mss → (j : ℕ) → j < n → On (e + j) (at mss j)
  AllOn-range e n mss all = AllOn-front e n [] mss (subst (λ es. AllOn On es mss) (sym (append-nil (range e n))) all)

  -- the one edge behind them
  pub AllOn-behind : (e n p : ℕ) (mss : List (List Message)) → AllOn On (range e n ++ p ∷ []) mss → On p (at mss n)
  AllOn-behind e zero p mss all = AllOn-one On p mss all
  AllOn-behind e (suc n) p [] all = absurd all
  AllOn-behind e (suc n) p (ms ∷ mss) all = AllOn-behind (suc e) n p mss all.1

  -- lists for such edges
  pub AllOn-each : (e n : ℕ) (f : ℕ → List Message) → ((j : ℕ) → j < n → On (e + j) (f j)) → AllOn On (range e n) (listed n f)
  AllOn-each e zero f each = tt
  AllOn-each e (suc n) f each =
      let first : e + 0 ≡ e = omega arith in
      let rest : (j : ℕ) → e + suc j ≡ suc e + j = λ j. omega arith in (
        subst (λ k. On k (f 0)) first (each 0 (omega arith)),
        AllOn-each (suc e) n (λ j. f (suc j)) (λ j below. subst (λ k. On k (f (suc j))) (rest j) (each (suc j) (omega (arith, below)))),
      )

  pub AllOn-stride : (step e n : ℕ) (f : ℕ → List Message) → ((j : ℕ) → j < n → On (e + j * step) (f j)) → AllOn On (stride step e n) (listed n f)
  AllOn-stride step e zero f each = tt
  AllOn-stride step e (suc n) f each =
      let first : e + 0 * step ≡ e = omega arith in
      let rest : (j : ℕ) → e + suc j * step ≡ e + step + j * step = λ j. omega (arith, suc-times j step) in (
        subst (λ k. On k (f 0)) first (each 0 (omega arith)),
        AllOn-stride step (e + step) n (λ j. f (suc j)) (λ j below. subst (λ k. On k (f (suc j))) (rest j) (each (suc j) (omega (arith, below)))),
      )

  -- edges behind one another
  pub AllOn-append : (es fs : List ℕ) (mss nss : List (List Message)) → AllOn On es mss → AllOn On fs nss → AllOn On (es ++ fs) (mss ++ nss)
  AllOn-append [] fs [] nss left right = right
  AllOn-append [] fs (ms ∷ mss) nss left right = absurd left
  AllOn-append (e ∷ es) fs [] nss left right = absurd left
  AllOn-append (e ∷ es) fs (ms ∷ mss) nss left right = (left.0, AllOn-append es fs mss nss left.1 right)

  -- what stands on such edges, by their numbers
  pub OnRange-at : (e n : ℕ) (f : ℕ → List Message) → OnRange On e n f → (j : ℕ) → j < n → On (e + j) (f j)
  OnRange-at e zero f on j below = absurd (omega (arith, below))
  OnRange-at e (suc n) f on zero below =
      let same : e ≡ e + 0 = omega arith in
      subst (λ k. On k (f 0)) same on.0
  OnRange-at e (suc n) f on (suc j) below =
      let same : suc e + j ≡ e + suc j = omega arith in
      subst (λ k. On k (f (suc j))) same (OnRange-at (suc e) n (λ k. f (suc k)) on.1 j (omega (arith, below)))

  -- lists for edges in a row
  pub OnRange-each : (e n : ℕ) (f : ℕ → List Message) → ((j : ℕ) → j < n → On (e + j) (f j)) → OnRange On e n f
  OnRange-each e n f each = OnRange-AllOn On e n (listed n f) f (AllOn-each e n f each) (at-listed n f)
