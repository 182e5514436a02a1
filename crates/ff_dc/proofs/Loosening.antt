-- What is loose in two lists, one behind the other.
use Rattle.std.proofs.Common.{◌≡◌, ℕ, suc, zero, ◌+◌, ◌-◌, ◌≤◌, Bool, true, false, List, [], ◌∷◌, ◌++◌, length, ℤ, pos, negsuc, refl, ap, ◌∙◌, sym, arith}
use Rattle.std.proofs.lemmas.List.Sums.{fold-append}
use Rattle.std.specs.List.{fold}
use Rattle.std.proofs.lemmas.Bool.{cond-false, ne_eqb}
use Rattle.std.specs.Prelude.{if◌then◌else◌, ◌==◌}
use Rattle.ff_dc.specs.Values.{Loose, matched, loose}

abbrev pub meet : Loose → Loose → Loose
meet s t = (s.0 + (t.0 - s.1), t.1 + (s.1 - t.0))

pair : {a b c d : ℕ} → a ≡ c → b ≡ d → let l : ℕ × ℕ = (a, b) in let r : ℕ × ℕ = (c, d) in l ≡ r
pair {a} {b} {c} {d} p q = cc

close : Loose → Loose
close s = if s.1 == 0 then (s.0 + 1, 0) else (s.0, s.1 - 1)

close-is : (a o : ℕ) → close (a, o) ≡ (a + (1 - o), o - 1)
unfolding close
close-is a zero = pair (omega arith) (omega arith)
close-is a (suc o) = cond-false _ _ _ (ne_eqb (suc o) 0 (λ e. omega arith)) ∙ pair (omega arith) (omega arith)

step : Bool → Bool → Loose → Loose
step opens closes s = if opens then (s.0, s.1 + 1) else (if closes then close s else s)

matched-step : (s : Loose) (n : ℕ) → matched s (pos n) ≡ step (n == 40) (n == 41) s
unfolding step close
matched-step s n = refl

meet-step : (opens closes : Bool) (s t : Loose) → step opens closes (meet s t) ≡ meet s (step opens closes t)
unfolding step
meet-step true closes s t = pair (omega arith) (omega arith)
meet-step false true s t =
    close-is (s.0 + (t.0 - s.1)) (t.1 + (s.1 - t.0))
    ∙ pair (omega arith) (omega arith)
    ∙ ap (λ (u : Loose). meet s u) (sym (close-is t.0 t.1))
meet-step false false s t = refl

meet-matched : (s t : Loose) (x : ℤ) → matched (meet s t) x ≡ meet s (matched t x)
meet-matched s t (negsuc n) = refl
meet-matched s t (pos n) =
    matched-step (meet s t) n ∙ meet-step (n == 40) (n == 41) s t ∙ ap (λ (u : Loose). meet s u) (sym (matched-step t n))

meet-fold : (s t : Loose) (xs : List ℤ) → fold matched (meet s t) xs ≡ meet s (fold matched t xs)
meet-fold s t [] = refl
meet-fold s t (x ∷ xs) = ap (λ (u : Loose). fold matched u xs) (meet-matched s t x) ∙ meet-fold s (matched t x) xs

pub loose-append : (xs ys : List ℤ) → loose (xs ++ ys) ≡ meet (loose xs) (loose ys)
loose-append xs ys =
    fold-append matched (0, 0) xs ys
    ∙ ap (λ (u : Loose). fold matched u ys) (pair (omega arith) (omega arith))
    ∙ meet-fold (loose xs) (0, 0) ys

one-more : (s : Loose) (x : ℤ) → (matched s x).0 + (matched s x).1 ≤ s.0 + s.1 + 1
one-more s (negsuc n) = omega arith
one-more s (pos n) = grind arith

from-few : (xs : List ℤ) (s : Loose) → (fold matched s xs).0 + (fold matched s xs).1 ≤ s.0 + s.1 + length xs
from-few [] s = omega arith
from-few (x ∷ xs) s = omega (arith, from-few xs (matched s x), one-more s x)

pub loose-few : (xs : List ℤ) → (loose xs).0 + (loose xs).1 ≤ length xs
loose-few xs = omega (arith, from-few xs (0, 0))

-- by the number
pub more-open : (s : Loose) (x : ℤ) → x ≡ pos 40 → matched s x ≡ (s.0, s.1 + 1)
more-open s x e = ap (λ (z : ℤ). matched s z) e

pub more-close : (s : Loose) (x : ℤ) → x ≡ pos 41 → matched s x ≡ (s.0 + (1 - s.1), s.1 - 1)
unfolding close
more-close s x e = ap (λ (z : ℤ). matched s z) e ∙ close-is s.0 s.1

pub more-other : (s : Loose) (x : ℤ) → (x ≡ pos 40 → ⊥) → (x ≡ pos 41 → ⊥) → matched s x ≡ s
more-other s (negsuc n) p q = refl
more-other s (pos n) p q = cond-false _ _ _ (ne_eqb n 40 (λ e. p (ap pos e))) ∙ cond-false _ _ _ (ne_eqb n 41 (λ e. q (ap pos e)))
