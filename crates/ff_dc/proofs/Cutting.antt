-- The numbers of a part are those of its two halves, one behind the other.
use Rattle.std.proofs.Common.{◌≡◌, ℕ, ◌+◌, ◌-◌, ◌≤◌, List, ◌++◌, length, take, drop, ℤ, ap, ◌∙◌, sym, arith, length-take, length-drop}
use Rattle.std.proofs.lemmas.List.{drop-drop, drop-take, take-append-drop, take-take}
use Rattle.ff_dc.specs.Spans.{Span, size, within}

take-more : {X : Type 0} (a b : ℕ) (xs : List X) → take (a + b) xs ≡ take a xs ++ take b (drop a xs)
take-more {X} a b xs =
    sym (take-append-drop a (take (a + b) xs))
    ∙ ap (λ (ys : List X). ys ++ drop a (take (a + b) xs)) (take-take a (a + b) xs (omega arith))
    ∙ ap (λ (ys : List X). take a xs ++ ys) (drop-take a b xs)

pub within-split : (ns : List ℤ) (lo mid hi : ℕ) → lo ≤ mid → mid ≤ hi → within ns (lo, hi) ≡ within ns (lo, mid) ++ within ns (mid, hi)
within-split ns lo mid hi p q =
    ap (λ (n : ℕ). take n (drop lo ns)) (let e : hi - lo ≡ (mid - lo) + (hi - mid) = omega arith in e)
    ∙ take-more (mid - lo) (hi - mid) (drop lo ns)
    ∙ ap (λ (ys : List ℤ). take (mid - lo) (drop lo ns) ++ take (hi - mid) ys)
    (drop-drop (mid - lo) lo ns ∙ ap (λ (n : ℕ). drop n ns) (let e : lo + (mid - lo) ≡ mid = omega arith in e))

pub length-within : (ns : List ℤ) (p : Span) → p.0 ≤ p.1 → p.1 ≤ length ns → length (within ns p) ≡ size p
length-within ns p order in_list = omega (arith, length-take (size p) (drop p.0 ns), length-drop p.0 ns)
