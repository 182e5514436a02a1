-- Lists of edges that have none together.
use Rattle.std.proofs.Common.{◌≢◌, ◌<◌, ℕ, ◌+◌, List, [], ◌∷◌, ◌++◌, sym, ◌∙◌, inl, inr, arith}
use Rattle.ff_plan.specs.Rows.{range}
use Rattle.ff_plan.proofs.Among.{In, in-one, in-append, in-range}

-- no edge is among both
abbrev pub Apart : List ℕ → List ℕ → Type 0
Apart xs ys = (x : ℕ) → In x xs → In x ys → ⊥

-- edges from `e` on, and one before them
pub apart-after : (i e n : ℕ) → i < e → Apart (i ∷ []) (range e n)
apart-after i e n before x one some =
    let here = in-one x i one in
    let there = in-range x e n some in
    omega (arith, here, there.0)

pub apart-before : (e n o : ℕ) → o < e → Apart (range e n) (o ∷ [])
apart-before e n o before x some one =
    let here = in-one x o one in
    let there = in-range x e n some in
    omega (arith, here, there.0)

pub apart-ends : (i o : ℕ) → i ≢ o → Apart (i ∷ []) (o ∷ [])
apart-ends i o differ x one other = differ (sym (in-one x i one) ∙ in-one x o other)

pub apart-left : (xs ys zs : List ℕ) → Apart xs zs → Apart ys zs → Apart (xs ++ ys) zs
apart-left xs ys zs first second x some other = elim (in-append x xs ys some) [
  | inl left ↦ first x left other
  | inr right ↦ second x right other
]

pub apart-right : (xs ys zs : List ℕ) → Apart xs ys → Apart xs zs → Apart xs (ys ++ zs)
apart-right xs ys zs first second x some other = elim (in-append x ys zs other) [
  | inl left ↦ first x some left
  | inr right ↦ second x some right
]

pub apart-ranges : (e n : ℕ) → Apart (range (e + n) n) (range e n)
apart-ranges e n x some other =
    let here = in-range x (e + n) n some in
    let there = in-range x e n other in
    omega (arith, here.0, there.1)
