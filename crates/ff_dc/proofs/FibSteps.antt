-- The two numbers before one give it.
use Rattle.std.proofs.Common.{◌≡◌, ℕ, suc, zero, ◌+◌, ◌-◌, ◌^◌, ◌≤◌, Bool, true, [], min, ℤ, pos, ◌+ℤ◌, ap, ◌∙◌, sym, arith}
use Rattle.std.specs.Prelude.{◌&&◌}
use Rattle.std.proofs.lemmas.Int.{ints}
use Rattle.std.proofs.lemmas.Bool.{cond-true, le-leb, eq-eqb}
use Rattle.ff_dc.specs.declared.rule.DcRule.TheVariants.{Fib}
use Rattle.ff_dc.specs.Spans.{Span, size}
use Rattle.ff_dc.specs.Fours.{clip, only}
use Rattle.ff_dc.specs.Values.{fib}
use Rattle.ff_dc.specs.Rules.{value, divided, combined}
use Rattle.ff_dc.proofs.Fibs.{fib-small}
use Rattle.ff_dc.proofs.Levels.{Steps}
use Rattle.ff_dc.proofs.Clipped.{add-same}

fib-same : (a b c : ℕ) → a ≤ 2 ^ 90 → b ≤ 2 ^ 90 → c ≡ a + b → only (clip (clip (pos a) +ℤ clip (pos b))) ≡ only (clip (pos c))
fib-same a b c p q e =
    ap only (add-same (pos a) (pos b) (pos c) (omega (arith, ints), omega (arith, ints)) (omega (arith, ints), omega (arith, ints)) (ap pos e))

fib-of : (n k : ℕ) → min n 90 ≡ k → pos (fib (min n 90)) ≡ pos (fib k)
fib-of n k e = ap (λ (m : ℕ). pos (fib m)) e

fib-two : (n : ℕ) → 2 ≤ n → fib n ≡ fib (n - 1) + fib (n - 2)
fib-two zero h = absurd (omega arith)
fib-two (suc zero) h = absurd (omega arith)
fib-two (suc (suc n)) h =
    ap (λ (k : ℕ). fib k + fib n) (let e : suc n ≡ suc (suc n) - 1 = omega arith in e)
    ∙ ap (λ (k : ℕ). fib (suc (suc n) - 1) + fib k) (let e : n ≡ suc (suc n) - 2 = omega arith in e)

fib-gives : (n : ℕ) → 2 ≤ n → n ≤ 90 → combined Fib (value Fib [] (0, n - 1)) (value Fib [] (0, n - 2)) ≡ value Fib [] (0, n)
fib-gives n two most =
    let a : min (n - 1 - 0) 90 ≡ n - 1 = omega arith in
    let b : min (n - 2 - 0) 90 ≡ n - 2 = omega arith in
    let d : min (n - 0) 90 ≡ n = omega arith in
    ap (λ (z : ℤ). only (clip (clip z +ℤ clip (pos (fib (min (n - 2 - 0) 90)))))) (fib-of (n - 1 - 0) (n - 1) a)
    ∙ ap (λ (z : ℤ). only (clip (clip (pos (fib (n - 1))) +ℤ clip z))) (fib-of (n - 2 - 0) (n - 2) b)
    ∙ fib-same (fib (n - 1)) (fib (n - 2)) (fib n) (fib-small (n - 1) (omega arith)).0 (fib-small (n - 2) (omega arith)).0 (fib-two n two)
    ∙ ap (λ (z : ℤ). only (clip z)) (sym (fib-of (n - 0) n d))

both-true : (a b : Bool) → a ≡ true → b ≡ true → (a && b) ≡ true
both-true a b p q = ap (λ (t : Bool). t && b) p ∙ q

cuts-fib : (p : Span) → p.0 ≡ 0 → 2 ≤ size p → divided Fib p ≡ ((0, p.1 - 1), (0, p.1 - 2))
cuts-fib p none two = cond-true _ _ _ (both-true _ _ (eq-eqb p.0 0 none) (le-leb 2 (size p) two))

pub fib-steps : Steps Fib
fib-steps cut ns p asked large =
    let part = asked.part in
    let cuts = asked.cuts in
    let e : divided Fib p ≡ ((0, p.1 - 1), (0, p.1 - 2)) = cuts-fib p part.0 (omega arith) in
    let same : p ≡ (0, p.1) = ap (λ (n : ℕ). let q : ℕ × ℕ = (n, p.1) in q) part.0 in
    record {
      left = record { cuts = asked.cuts; few = asked.few; numbers = asked.numbers; part = (ap (λ (q : Span × Span). q.0.0) e, omega (arith, ap (λ (q : Span × Span). q.0.1) e)) };
      right = record { cuts = asked.cuts; few = asked.few; numbers = asked.numbers; part = (ap (λ (q : Span × Span). q.1.0) e, omega (arith, ap (λ (q : Span × Span). q.1.1) e)) };
      gives =
          ap (λ (q : Span × Span). combined Fib (value Fib ns q.0) (value Fib ns q.1)) e
          ∙ fib-gives p.1 (omega arith) part.1
          ∙ sym (ap (λ (q : Span). value Fib ns q) same);
    }
