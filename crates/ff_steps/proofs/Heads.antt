-- Equal lists, by their heads and tails.
use Rattle.std.proofs.Common.{◌≡◌, List, [], ◌∷◌, length, ap, arith}

-- equal lists have equal heads and tails
pub head-same : {A : Type 0} {x y : A} {xs ys : List A} → x ∷ xs ≡ y ∷ ys → x ≡ y
head-same {A} {x} {y} e = ap (first x) e
  where
    first : A → List A → A
    first d [] = d
    first d (z ∷ zs) = z

pub tail-same : {A : Type 0} {x y : A} {xs ys : List A} → x ∷ xs ≡ y ∷ ys → xs ≡ ys
tail-same {A} e = ap rest e
  where
    rest : List A → List A
    rest [] = []
    rest (z ∷ zs) = zs

pub cons≢nil : {A : Type 0} {x : A} {xs : List A} → x ∷ xs ≡ [] → ⊥
cons≢nil e = absurd (omega (arith, ap length e))
