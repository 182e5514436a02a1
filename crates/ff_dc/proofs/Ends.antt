-- The ends of the four values, and the bits that hold them.
use Rattle.std.proofs.Common.{◌≡◌, [], ◌∷◌, ℤ, pos, negsuc, ◌+ℤ◌, ◌-ℤ◌, ap, ◌∙◌, arith, FitsSigned, to_z, of_z}
use Rattle.std.proofs.lemmas.Int.{ints, clamps, to_z-of_z}
use mir.Syntax.{w128}
use Rattle.std.specs.Int.{int_max, int_min}
use Rattle.ff_dc.specs.Fours.{IsWithin, clip}

pub fits-within : (z : ℤ) → IsWithin z → FitsSigned w128 z
fits-within (pos n) h = record { sfits = omega (arith, ints, h.1) }
fits-within (negsuc n) h = record { sfits = omega (arith, ints, h.0) }

pub clip-within : (z : ℤ) → IsWithin z → clip z ≡ z
unfolding clip
clip-within z h = omega (arith, ints, clamps, h.0, h.1)

pub within-clip : (z : ℤ) → IsWithin (clip z)
unfolding clip
within-clip z = (omega (arith, ints, clamps), omega (arith, ints, clamps))

-- a clipped number that came through bits
pub clip-bits : (r x z : ℤ) → r ≡ clip x → IsWithin r → x ≡ z → to_z w128 (of_z w128 r) ≡ clip z
clip-bits r x z is within same = to_z-of_z w128 r (fits-within r within) ∙ is ∙ ap clip same

-- four values that are the same
pub fours : {a a' b b' c c' d d' : ℤ} → a ≡ a' → b ≡ b' → c ≡ c' → d ≡ d' → (a ∷ b ∷ c ∷ d ∷ []) ≡ (a' ∷ b' ∷ c' ∷ d' ∷ [])
fours p q r s = cc

-- over plain numbers: an answer to numbers that came through bits is one to these numbers
pub same-bits : (z z' : ℤ) → z ≡ z' → IsWithin z → to_z w128 (of_z w128 z) ≡ z'
same-bits z z' e h = to_z-of_z w128 z (fits-within z h) ∙ e

pub bits-sum : (r a b a' b' : ℤ) → r ≡ clip (to_z w128 (of_z w128 a) +ℤ to_z w128 (of_z w128 b)) → IsWithin r
    → to_z w128 (of_z w128 a) ≡ a' → to_z w128 (of_z w128 b) ≡ b' → to_z w128 (of_z w128 r) ≡ clip (a' +ℤ b')
bits-sum r a b a' b' e h p q =
    same-bits r _ e h
    ∙ ap (λ (z : ℤ). clip (z +ℤ to_z w128 (of_z w128 b))) p ∙ ap (λ (z : ℤ). clip (a' +ℤ z)) q

pub bits-max : (r x a b x' a' b' : ℤ) → r ≡ clip (int_max (to_z w128 (of_z w128 x)) (to_z w128 (of_z w128 a) +ℤ to_z w128 (of_z w128 b))) → IsWithin r
    → to_z w128 (of_z w128 x) ≡ x' → to_z w128 (of_z w128 a) ≡ a' → to_z w128 (of_z w128 b) ≡ b' → to_z w128 (of_z w128 r) ≡ clip (int_max x' (a' +ℤ b'))
bits-max r x a b x' a' b' e h s p q =
    same-bits r _ e h
    ∙ ap (λ (z : ℤ). clip (int_max z (to_z w128 (of_z w128 a) +ℤ to_z w128 (of_z w128 b)))) s
    ∙ ap (λ (z : ℤ). clip (int_max x' (z +ℤ to_z w128 (of_z w128 b)))) p ∙ ap (λ (z : ℤ). clip (int_max x' (a' +ℤ z))) q

pub bits-best : (r x y a b x' y' a' b' : ℤ) → r ≡ clip (int_max (int_max (to_z w128 (of_z w128 x)) (to_z w128 (of_z w128 y))) (to_z w128 (of_z w128 a) +ℤ to_z w128 (of_z w128 b))) → IsWithin r
    → to_z w128 (of_z w128 x) ≡ x' → to_z w128 (of_z w128 y) ≡ y' → to_z w128 (of_z w128 a) ≡ a' → to_z w128 (of_z w128 b) ≡ b' → to_z w128 (of_z w128 r) ≡ clip (int_max (int_max x' y') (a' +ℤ b'))
bits-best r x y a b x' y' a' b' e h s t p q =
    same-bits r _ e h
    ∙ ap (λ (z : ℤ). clip (int_max (int_max z (to_z w128 (of_z w128 y))) (to_z w128 (of_z w128 a) +ℤ to_z w128 (of_z w128 b)))) s
    ∙ ap (λ (z : ℤ). clip (int_max (int_max x' z) (to_z w128 (of_z w128 a) +ℤ to_z w128 (of_z w128 b)))) t
    ∙ ap (λ (z : ℤ). clip (int_max (int_max x' y') (z +ℤ to_z w128 (of_z w128 b)))) p ∙ ap (λ (z : ℤ). clip (int_max (int_max x' y') (a' +ℤ z))) q

pub bits-less : (r a b o d a' b' o' d' : ℤ) → r ≡ clip (to_z w128 (of_z w128 a) +ℤ to_z w128 (of_z w128 b) -ℤ int_min (to_z w128 (of_z w128 o)) (to_z w128 (of_z w128 d))) → IsWithin r
    → to_z w128 (of_z w128 a) ≡ a' → to_z w128 (of_z w128 b) ≡ b' → to_z w128 (of_z w128 o) ≡ o' → to_z w128 (of_z w128 d) ≡ d'
    → to_z w128 (of_z w128 r) ≡ clip (a' +ℤ b' -ℤ int_min o' d')
bits-less r a b o d a' b' o' d' e h s t p q =
    same-bits r _ e h
    ∙ ap (λ (z : ℤ). clip (z +ℤ to_z w128 (of_z w128 b) -ℤ int_min (to_z w128 (of_z w128 o)) (to_z w128 (of_z w128 d)))) s
    ∙ ap (λ (z : ℤ). clip (a' +ℤ z -ℤ int_min (to_z w128 (of_z w128 o)) (to_z w128 (of_z w128 d)))) t
    ∙ ap (λ (z : ℤ). clip (a' +ℤ b' -ℤ int_min z (to_z w128 (of_z w128 d)))) p
    ∙ ap (λ (z : ℤ). clip (a' +ℤ b' -ℤ int_min o' z)) q
