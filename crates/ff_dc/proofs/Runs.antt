-- The greatest sums of prefixes, suffixes and runs: of two lists one behind the other, and of one number more.
use Rattle.std.proofs.Common.{◌≡◌, ◌*◌, List, [], ◌∷◌, ◌++◌, map, length, ℤ, pos, ◌+ℤ◌, ◌≤ℤ◌, refl, ap, ◌∙◌, sym, arith}
use Rattle.std.proofs.lemmas.Int.{ints, clamps}
use Rattle.std.proofs.lemmas.List.{map-append}
use Rattle.std.specs.Int.{int_max}
use Rattle.std.specs.List.{All}
use Rattle.ff_rec.specs.Number.{IsNumber}
use Rattle.ff_dc.specs.Values.{total, greatest, best, prefixes, suffixes, runs}
use Rattle.ff_dc.proofs.Totals.{total-append, Near-total, first-number, other-numbers}

pub greatest-up : (zs : List ℤ) → pos 0 ≤ℤ greatest zs
greatest-up [] = omega (arith, ints)
greatest-up (z ∷ zs) = omega (arith, ints, clamps, greatest-up zs)

greatest-append : (xs ys : List ℤ) → greatest (xs ++ ys) ≡ int_max (greatest xs) (greatest ys)
greatest-append [] ys = omega (arith, ints, clamps, greatest-up ys)
greatest-append (x ∷ xs) ys = omega (arith, ints, clamps, greatest-append xs ys)

best-append : (xs ys : List (List ℤ)) → best (xs ++ ys) ≡ int_max (best xs) (best ys)
best-append xs ys = ap greatest (map-append total xs ys) ∙ greatest-append (map total xs) (map total ys)

-- one number before each of some lists, and alone
best-before : (x : ℤ) (xss : List (List ℤ)) → int_max x (best (map (λ ys. x ∷ ys) xss)) ≡ int_max (pos 0) (x +ℤ best xss)
best-before x [] = omega (arith, ints, clamps)
best-before x (xs ∷ xss) = omega (arith, ints, clamps, best-before x xss)

prefix-first : (xs : List ℤ) → (xss : List (List ℤ)) × (prefixes xs ≡ [] ∷ xss)
prefix-first [] = ([], refl)
prefix-first (x ∷ xs) = (map (λ ys. x ∷ ys) (prefixes xs), refl)

before-prefixes : (x : ℤ) (pss xss : List (List ℤ)) → pss ≡ [] ∷ xss → best (map (λ ys. x ∷ ys) pss) ≡ int_max (pos 0) (x +ℤ best pss)
before-prefixes x pss xss e =
    ap (λ (qss : List (List ℤ)). best (map (λ ys. x ∷ ys) qss)) e
    ∙ (let h : best (map (λ ys. x ∷ ys) ([] ∷ xss)) ≡ int_max (pos 0) (x +ℤ best ([] ∷ xss)) = omega (arith, ints, clamps, best-before x xss, greatest-up (map total xss)) in h)
    ∙ ap (λ (qss : List (List ℤ)). int_max (pos 0) (x +ℤ best qss)) (sym e)

-- P, S and M: the greatest sums of a prefix, of a suffix, of a run
abbrev pub P : List ℤ → ℤ
P xs = best (prefixes xs)

abbrev pub S : List ℤ → ℤ
S xs = best (suffixes xs)

abbrev pub M : List ℤ → ℤ
M xs = best (runs xs)

pub P-cons : (x : ℤ) (xs : List ℤ) → P (x ∷ xs) ≡ int_max (pos 0) (x +ℤ P xs)
P-cons x xs =
    let f = prefix-first xs in
    let h : best (map (λ ys. x ∷ ys) (prefixes xs)) ≡ int_max (pos 0) (x +ℤ best (prefixes xs)) = before-prefixes x (prefixes xs) f.0 f.1 in
    omega (arith, ints, clamps, h)

pub M-cons : (x : ℤ) (xs : List ℤ) → M (x ∷ xs) ≡ int_max (P (x ∷ xs)) (M xs)
M-cons x xs = best-append (prefixes (x ∷ xs)) (runs xs)

-- over plain numbers
join-p : (x p t q r : ℤ) → r ≡ int_max p (t +ℤ q) → int_max (pos 0) (x +ℤ r) ≡ int_max (int_max (pos 0) (x +ℤ p)) ((x +ℤ t) +ℤ q)
join-p x p t q r e = omega (arith, ints, clamps, e)

pub P-append : (xs ys : List ℤ) → P (xs ++ ys) ≡ int_max (P xs) (total xs +ℤ P ys)
P-append [] ys = omega (arith, ints, clamps, greatest-up (map total (prefixes ys)))
P-append (x ∷ xs) ys =
    P-cons x (xs ++ ys)
    ∙ join-p x (P xs) (total xs) (P ys) (P (xs ++ ys)) (P-append xs ys)
    ∙ ap (λ (z : ℤ). int_max z ((x +ℤ total xs) +ℤ P ys)) (sym (P-cons x xs))

total-S : (xs : List ℤ) → total xs ≤ℤ S xs
total-S [] = omega (arith, ints, clamps)
total-S (x ∷ xs) = omega (arith, ints, clamps)

join-s : (a s t q r b : ℤ) → r ≡ int_max q (t +ℤ s) → b ≡ a +ℤ t → int_max b r ≡ int_max q (t +ℤ int_max a s)
join-s a s t q r b e f = omega (arith, ints, clamps, e, f)

pub S-append : (xs ys : List ℤ) → S (xs ++ ys) ≡ int_max (S ys) (total ys +ℤ S xs)
S-append [] ys = omega (arith, ints, clamps, total-S ys, greatest-up (map total (suffixes ys)))
S-append (x ∷ xs) ys =
    join-s (total (x ∷ xs)) (S xs) (total ys) (S ys) (S (xs ++ ys)) (total (x ∷ (xs ++ ys))) (S-append xs ys) (total-append (x ∷ xs) ys)

P-M : (xs : List ℤ) → P xs ≤ℤ M xs
P-M [] = omega (arith, ints, clamps)
P-M (x ∷ xs) = omega (arith, ints, clamps, M-cons x xs)

join-m : (p m s q n r k a b : ℤ) → r ≡ int_max (int_max m n) (s +ℤ q) → k ≡ int_max p (a +ℤ q) → b ≡ int_max p m → int_max k r ≡ int_max (int_max b n) (int_max a s +ℤ q)
join-m p m s q n r k a b e f g = omega (arith, ints, clamps, e, f, g)

pub M-append : (xs ys : List ℤ) → M (xs ++ ys) ≡ int_max (int_max (M xs) (M ys)) (S xs +ℤ P ys)
M-append [] ys = omega (arith, ints, clamps, P-M ys, greatest-up (map total (prefixes ys)))
M-append (x ∷ xs) ys =
    M-cons x (xs ++ ys)
    ∙ join-m (P (x ∷ xs)) (M xs) (S xs) (P ys) (M ys) (M (xs ++ ys)) (P (x ∷ (xs ++ ys))) (total (x ∷ xs)) (M (x ∷ xs))
    (M-append xs ys) (P-append (x ∷ xs) ys) (M-cons x xs)

-- how far they go
pub Near-P : (xs : List ℤ) → All IsNumber xs → P xs ≤ℤ pos (length xs * 9223372036854775808)
Near-P [] h = omega (arith, ints, clamps)
Near-P (x ∷ xs) h = omega (arith, ints, clamps, P-cons x xs, Near-P xs (other-numbers x xs h), (first-number x xs h).1)

pub Near-S : (xs : List ℤ) → All IsNumber xs → S xs ≤ℤ pos (length xs * 9223372036854775808)
Near-S [] h = omega (arith, ints, clamps)
Near-S (x ∷ xs) h =
    let r : total (x ∷ xs) ≤ℤ pos (length (x ∷ xs) * 9223372036854775808) = (Near-total (x ∷ xs) h).high in
    omega (arith, ints, clamps, Near-S xs (other-numbers x xs h), r)

pub Near-M : (xs : List ℤ) → All IsNumber xs → M xs ≤ℤ pos (length xs * 9223372036854775808)
Near-M [] h = omega (arith, ints, clamps)
Near-M (x ∷ xs) h = omega (arith, ints, clamps, M-cons x xs, Near-M xs (other-numbers x xs h), Near-P (x ∷ xs) h)
