-- What the class of several nodes says of each.
use Rattle.std.specs.Prelude.{◌≡◌, ◌≢◌, ℕ, List, [], ◌∷◌, refl, ◌⊎◌}
use Rattle.std.specs.List.{AllByRecursion}
use Rattle.std.proofs.Common.{inl, inr}
use Rattle.ff_node.specs.declared.class.Class.{Class}
use Rattle.ff_node.specs.declared.class.Class.TheVariants.{Plain, Ordered, Fold, Keyed}
use Rattle.ff_node.specs.Comb.{both, joined_class}

-- a node that isn't Ordered
abbrev pub IsUnordered : Class → Type 0
IsUnordered Plain = Unit {0}
IsUnordered Ordered = ⊥
IsUnordered Fold = Unit {0}
IsUnordered (Keyed f) = Unit {0}

-- a node that sends at its end alone
abbrev pub IsFolding : Class → Type 0
IsFolding Plain = ⊥
IsFolding Ordered = ⊥
IsFolding Fold = Unit {0}
IsFolding (Keyed f) = Unit {0}

-- the first class that isn't Plain is that of a Fold
abbrev pub HasFolding : List Class → Type 0
HasFolding [] = ⊥
HasFolding (c ∷ cs) = IsFolding c ⊎ ((c ≡ Plain) × HasFolding cs)

-- what the class of two says of each
both-plain : (c d : Class) → both c d ≡ Plain → (c ≡ Plain) × (d ≡ Plain)
both-plain Plain Plain is = (refl, refl)
both-plain Plain Ordered is = absurd (cc)
both-plain Plain Fold is = absurd (cc)
both-plain Plain (Keyed g) is = absurd (cc)
both-plain Ordered d is = absurd (cc)
both-plain Fold Plain is = absurd (cc)
both-plain Fold Ordered is = absurd (cc)
both-plain Fold Fold is = absurd (cc)
both-plain Fold (Keyed g) is = absurd (cc)
both-plain (Keyed f) Plain is = absurd (cc)
both-plain (Keyed f) Ordered is = absurd (cc)
both-plain (Keyed f) Fold is = absurd (cc)
both-plain (Keyed f) (Keyed g) is = absurd (cc)

both-unordered : (c d : Class) → IsUnordered (both c d) → IsUnordered c × IsUnordered d
both-unordered Plain Plain h = (tt, tt)
both-unordered Plain Ordered h = absurd h
both-unordered Plain Fold h = (tt, tt)
both-unordered Plain (Keyed g) h = (tt, tt)
both-unordered Ordered d h = absurd h
both-unordered Fold Plain h = (tt, tt)
both-unordered Fold Ordered h = absurd h
both-unordered Fold Fold h = (tt, tt)
both-unordered Fold (Keyed g) h = (tt, tt)
both-unordered (Keyed f) Plain h = (tt, tt)
both-unordered (Keyed f) Ordered h = absurd h
both-unordered (Keyed f) Fold h = (tt, tt)
both-unordered (Keyed f) (Keyed g) h = (tt, tt)

both-folding : (c d : Class) → IsFolding (both c d) → IsFolding c ⊎ ((c ≡ Plain) × IsFolding d)
both-folding Plain Plain h = absurd h
both-folding Plain Ordered h = absurd h
both-folding Plain Fold h = inr (refl, tt)
both-folding Plain (Keyed g) h = inr (refl, tt)
both-folding Ordered d h = absurd h
both-folding Fold d h = inl tt
both-folding (Keyed f) d h = inl tt

both-keyed : (c d : Class) (f : ℕ) → both c d ≢ Keyed f
both-keyed Plain Plain f is = cc
both-keyed Plain Ordered f is = cc
both-keyed Plain Fold f is = cc
both-keyed Plain (Keyed g) f is = cc
both-keyed Ordered d f is = cc
both-keyed Fold Plain f is = cc
both-keyed Fold Ordered f is = cc
both-keyed Fold Fold f is = cc
both-keyed Fold (Keyed g) f is = cc
both-keyed (Keyed e) Plain f is = cc
both-keyed (Keyed e) Ordered f is = cc
both-keyed (Keyed e) Fold f is = cc
both-keyed (Keyed e) (Keyed g) f is = cc

-- what the class of several says of each
pub joined_class-plain : (c : Class) (cs : List Class) → joined_class c cs ≡ Plain → (c ≡ Plain) × AllByRecursion (λ d. d ≡ Plain) cs
joined_class-plain c [] is = (is, tt)
joined_class-plain c (d ∷ ds) is =
    let rest = joined_class-plain (both c d) ds is in
    let two = both-plain c d rest.0 in
    (two.0, (two.1, rest.1))

pub joined_class-unordered : (c : Class) (cs : List Class) → IsUnordered (joined_class c cs) → IsUnordered c × AllByRecursion IsUnordered cs
joined_class-unordered c [] h = (h, tt)
joined_class-unordered c (d ∷ ds) h =
    let rest = joined_class-unordered (both c d) ds h in
    let two = both-unordered c d rest.0 in
    (two.0, (two.1, rest.1))

pub joined_class-folding : (c : Class) (cs : List Class) → IsFolding (joined_class c cs) → HasFolding (c ∷ cs)
joined_class-folding c [] h = inl h
joined_class-folding c (d ∷ ds) h = elim (joined_class-folding (both c d) ds h) [
  | inl here ↦ elim (both-folding c d here) [ inl first ↦ inl first | inr second ↦ inr (second.0, inl second.1) ]
  | inr later ↦ let two = both-plain c d later.0 in inr (two.0, inr (two.1, later.1))
]

pub joined_class-keyed : (c d : Class) (ds : List Class) (f : ℕ) → joined_class (both c d) ds ≢ Keyed f
joined_class-keyed c d [] f is = both-keyed c d f is
joined_class-keyed c d (e ∷ es) f is = joined_class-keyed (both c d) e es f is
