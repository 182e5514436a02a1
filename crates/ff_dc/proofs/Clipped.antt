-- Values that are within the ends aren't clipped: what two parts give, over plain numbers.
use Rattle.std.proofs.Common.{◌≡◌, ℤ, ◌+ℤ◌, ◌-ℤ◌, ap, ◌∙◌, sym}
use Rattle.std.specs.Int.{int_max, int_min}
use Rattle.ff_dc.specs.Fours.{IsWithin, clip}
use Rattle.ff_dc.proofs.Ends.{clip-within}

-- sums
pub add-same : (a b t : ℤ) → IsWithin a → IsWithin b → t ≡ a +ℤ b → clip (clip a +ℤ clip b) ≡ clip t
add-same a b t p q e =
    ap clip (ap (λ (z : ℤ). z +ℤ clip b) (clip-within a p) ∙ ap (λ (z : ℤ). a +ℤ z) (clip-within b q) ∙ sym e)

pub max-same : (p t q r : ℤ) → IsWithin p → IsWithin t → IsWithin q → r ≡ int_max p (t +ℤ q) → clip (int_max (clip p) (clip t +ℤ clip q)) ≡ clip r
max-same p t q r hp ht hq e =
    ap clip
    (ap (λ (z : ℤ). int_max z (clip t +ℤ clip q)) (clip-within p hp)
    ∙ ap (λ (z : ℤ). int_max p (z +ℤ clip q)) (clip-within t ht)
    ∙ ap (λ (z : ℤ). int_max p (t +ℤ z)) (clip-within q hq)
    ∙ sym e)

pub best-same : (m n s q r : ℤ) → IsWithin m → IsWithin n → IsWithin s → IsWithin q → r ≡ int_max (int_max m n) (s +ℤ q)
    → clip (int_max (int_max (clip m) (clip n)) (clip s +ℤ clip q)) ≡ clip r
best-same m n s q r hm hn hs hq e =
    ap clip
    (ap (λ (z : ℤ). int_max (int_max z (clip n)) (clip s +ℤ clip q)) (clip-within m hm)
    ∙ ap (λ (z : ℤ). int_max (int_max m z) (clip s +ℤ clip q)) (clip-within n hn)
    ∙ ap (λ (z : ℤ). int_max (int_max m n) (z +ℤ clip q)) (clip-within s hs)
    ∙ ap (λ (z : ℤ). int_max (int_max m n) (s +ℤ z)) (clip-within q hq)
    ∙ sym e)

pub meet-same : (c d o r : ℤ) → IsWithin c → IsWithin d → IsWithin o → r ≡ c +ℤ d -ℤ int_min o d → clip (clip c +ℤ clip d -ℤ int_min (clip o) (clip d)) ≡ clip r
meet-same c d o r hc hd ho e =
    ap clip
    (ap (λ (z : ℤ). z +ℤ clip d -ℤ int_min (clip o) (clip d)) (clip-within c hc)
    ∙ ap (λ (z : ℤ). c +ℤ z -ℤ int_min (clip o) z) (clip-within d hd)
    ∙ ap (λ (z : ℤ). c +ℤ d -ℤ int_min z d) (clip-within o ho)
    ∙ sym e)

pub wait-same : (c o d r : ℤ) → IsWithin c → IsWithin d → IsWithin o → r ≡ c +ℤ o -ℤ int_min o d → clip (clip c +ℤ clip o -ℤ int_min (clip o) (clip d)) ≡ clip r
wait-same c o d r hc hd ho e =
    ap clip
    (ap (λ (z : ℤ). z +ℤ clip o -ℤ int_min (clip o) (clip d)) (clip-within c hc)
    ∙ ap (λ (z : ℤ). c +ℤ z -ℤ int_min z (clip d)) (clip-within o ho)
    ∙ ap (λ (z : ℤ). c +ℤ o -ℤ int_min o z) (clip-within d hd)
    ∙ sym e)
