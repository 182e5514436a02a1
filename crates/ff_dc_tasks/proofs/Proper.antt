-- The division of a rule and a cut: its parts are divided as the rule says, and it isn't deep.
use Rattle.std.proofs.Common.{◌≡◌, ℕ, zero, suc, ◌+◌, ◌-◌, ◌^◌, ◌<◌, ◌≤◌, ◌==◌, nat_le, List, ℤ, length, inl, inr, refl, ap, sym, subst, arith}
use Rattle.std.proofs.Math.Nat.{pow-succ'}
use Rattle.std.proofs.lemmas.Bool.{cases_Bool, cond-true, cond-false, le-leb, leb-false, and_from, eq-eqb}
use Rattle.ff_dc.specs.declared.rule.DcRule.{DcRule}
use Rattle.ff_dc.specs.declared.rule.DcRule.TheVariants.{Fib, Sum, MaxSub, FirstMin, Bracket}
use Rattle.ff_dc.specs.Spans.{Span, size, is_small, halves, befores}
use Rattle.ff_dc.specs.Rules.{divided}
use Rattle.ff_dc.specs.Dividing.{IsPart}
use Rattle.ff_dc.specs.Divisions.{Whole, division, division_within}
use Rattle.ff_dc_tasks.specs.Paths.{root, IsLow, IsProper, IsInReach}

root-within : (depth : ℕ) (rule : DcRule) (cut : ℕ) (p : Span) → p ≡ root (division_within depth rule cut p)
root-within zero rule cut p = refl
root-within (suc depth) rule cut p =
    elim (cases_Bool (is_small p cut)) [
      | inl e ↦ sym (ap root (cond-true _ _ _ e))
      | inr e ↦ sym (ap root (cond-false _ _ _ e))
    ]

pub root-division : (rule : DcRule) (cut : ℕ) (p : Span) → p ≡ root (division rule cut p)
root-division rule cut p = root-within (size p) rule cut p

-- parts that a rule is asked for, which come of parts of this kind alone: `height` levels of them come to a small one
record IsDivisible (rule : DcRule) (cut : ℕ) (Is : Span → Type 0) (Fits : ℕ → Span → Type 0) : Type 0 where
  left : (p : Span) → Is p → cut < size p → Is (divided rule p).0
  right : (p : Span) → Is p → cut < size p → Is (divided rule p).1
  less_left : (p : Span) → Is p → cut < size p → size (divided rule p).0 < size p
  less_right : (p : Span) → Is p → cut < size p → size (divided rule p).1 < size p
  fits_left : (depth : ℕ) (p : Span) → Is p → cut < size p → Fits (suc depth) p → Fits depth (divided rule p).0
  fits_right : (depth : ℕ) (p : Span) → Is p → cut < size p → Fits (suc depth) p → Fits depth (divided rule p).1
  fits_none : (p : Span) → Is p → Fits 0 p → size p ≤ cut

IsProper-within : (rule : DcRule) (cut : ℕ) (Is : Span → Type 0) (Fits : ℕ → Span → Type 0) → IsDivisible rule cut Is Fits → (fuel : ℕ) (p : Span) → Is p → size p ≤ cut + fuel
    → IsProper rule cut (division_within fuel rule cut p)
IsProper-within rule cut Is Fits by zero p is enough = le-leb (size p) cut (omega (arith, enough))
IsProper-within rule cut Is Fits by (suc fuel) p is enough =
    elim (cases_Bool (is_small p cut)) [
      | inl small ↦ subst (IsProper rule cut) (sym (cond-true _ _ _ small)) small
      | inr large ↦
          let more : cut < size p = leb-false (size p) cut large in
          subst (IsProper rule cut) (sym (cond-false _ _ _ large)) (
            large,
            sym (root-within fuel rule cut (divided rule p).0),
            sym (root-within fuel rule cut (divided rule p).1),
            IsProper-within rule cut Is Fits by fuel (divided rule p).0 (by.left p is more) (omega (arith, by.less_left p is more, enough)),
            IsProper-within rule cut Is Fits by fuel (divided rule p).1 (by.right p is more) (omega (arith, by.less_right p is more, enough)),
          )
    ]

IsLow-within : (rule : DcRule) (cut : ℕ) (Is : Span → Type 0) (Fits : ℕ → Span → Type 0) → IsDivisible rule cut Is Fits → (fuel depth : ℕ) (p : Span) → Is p → Fits depth p
    → IsLow depth (division_within fuel rule cut p)
IsLow-within rule cut Is Fits by zero depth p is fits = tt
IsLow-within rule cut Is Fits by (suc fuel) zero p is fits =
    subst (IsLow zero) (sym (cond-true (is_small p cut) (Whole p) _ (le-leb (size p) cut (by.fits_none p is fits)))) tt
IsLow-within rule cut Is Fits by (suc fuel) (suc depth) p is fits =
    elim (cases_Bool (is_small p cut)) [
      | inl small ↦ subst (IsLow (suc depth)) (sym (cond-true _ _ _ small)) tt
      | inr large ↦
          let more : cut < size p = leb-false (size p) cut large in
          subst (IsLow (suc depth)) (sym (cond-false _ _ _ large)) (
            IsLow-within rule cut Is Fits by fuel depth (divided rule p).0 (by.left p is more) (by.fits_left depth p is more fits),
            IsLow-within rule cut Is Fits by fuel depth (divided rule p).1 (by.right p is more) (by.fits_right depth p is more fits),
          )
    ]

-- ranges that are cut in two
abbrev IsRange : Span → Type 0
IsRange p = p.0 ≤ p.1

abbrev FitsHalves : ℕ → Span → Type 0
FitsHalves depth p = size p ≤ 2 ^ depth

halves-divisible : (rule : DcRule) (cut : ℕ) → ((p : Span) → divided rule p ≡ halves p) → 1 ≤ cut → IsDivisible rule cut IsRange FitsHalves
halves-divisible rule cut by some = record {
  left = λ p is more. subst (λ (ps : Span × Span). IsRange ps.0) (sym (by p)) (omega arith);
  right = λ p is more. subst (λ (ps : Span × Span). IsRange ps.1) (sym (by p)) (omega (arith, is, more));
  less_left = λ p is more. subst (λ (ps : Span × Span). size ps.0 < size p) (sym (by p)) (omega (arith, is, more, some));
  less_right = λ p is more. subst (λ (ps : Span × Span). size ps.1 < size p) (sym (by p)) (omega (arith, is, more, some));
  fits_left = λ depth p is more fits. subst (λ (ps : Span × Span). size ps.0 ≤ 2 ^ depth) (sym (by p)) (omega (arith, is, more, fits, pow-succ' 2 depth));
  fits_right = λ depth p is more fits. subst (λ (ps : Span × Span). size ps.1 ≤ 2 ^ depth) (sym (by p)) (omega (arith, is, more, fits, pow-succ' 2 depth));
  fits_none = λ p is fits. omega (arith, fits, some);
}

-- numbers from 0 with the two before them
abbrev IsUpTo : Span → Type 0
IsUpTo p = p.0 ≡ 0

abbrev FitsBefores : ℕ → ℕ → Span → Type 0
FitsBefores cut depth p = size p ≤ cut + depth

befores-is : (cut : ℕ) (p : Span) → p.0 ≡ 0 → 1 ≤ cut → cut < size p → befores p ≡ ((0, p.1 - 1), (0, p.1 - 2))
befores-is cut p from some more =
    cond-true _ _ _ (and_from (p.0 == 0) (nat_le 2 (size p)) (eq-eqb p.0 0 from) (le-leb 2 (size p) (omega (arith, some, more))))

befores-divisible : (cut : ℕ) → 1 ≤ cut → IsDivisible Fib cut IsUpTo (FitsBefores cut)
befores-divisible cut some = record {
  left = λ p is more. ap (λ (ps : Span × Span). ps.0.0) (befores-is cut p is some more);
  right = λ p is more. ap (λ (ps : Span × Span). ps.1.0) (befores-is cut p is some more);
  less_left = λ p is more. subst (λ (ps : Span × Span). size ps.0 < size p) (sym (befores-is cut p is some more)) (omega (arith, is, more, some));
  less_right = λ p is more. subst (λ (ps : Span × Span). size ps.1 < size p) (sym (befores-is cut p is some more)) (omega (arith, is, more, some));
  fits_left = λ depth p is more fits. subst (λ (ps : Span × Span). size ps.0 ≤ cut + depth) (sym (befores-is cut p is some more)) (omega (arith, is, more, fits));
  fits_right = λ depth p is more fits. subst (λ (ps : Span × Span). size ps.1 ≤ cut + depth) (sym (befores-is cut p is some more)) (omega (arith, is, more, fits));
  fits_none = λ p is fits. omega (arith, fits);
}

-- the division of a part that is in reach
module _ (rule : DcRule) (cut : ℕ) (p : Span) where
  by_halves : ((q : Span) → divided rule q ≡ halves q) → 1 ≤ cut → p.0 ≤ p.1 → size p ≤ 262144
      → IsProper rule cut (division rule cut p) × IsLow 24 (division rule cut p)
  by_halves by some is few = (
    IsProper-within rule cut IsRange FitsHalves (halves-divisible rule cut by some) (size p) p is (omega arith),
    IsLow-within rule cut IsRange FitsHalves (halves-divisible rule cut by some) (size p) 24 p is (omega (arith, few)),
  )

pub division-proper : (rule : DcRule) (cut : ℕ) (p : Span) → 1 ≤ cut → IsInReach rule cut p → IsProper rule cut (division rule cut p) × IsLow 24 (division rule cut p)
division-proper Fib cut p some reach = (
  IsProper-within Fib cut IsUpTo (FitsBefores cut) (befores-divisible cut some) (size p) p reach.0 (omega arith),
  IsLow-within Fib cut IsUpTo (FitsBefores cut) (befores-divisible cut some) (size p) 24 p reach.0 (omega (arith, reach.1)),
)
division-proper Sum cut p some reach = by_halves Sum cut p (λ q. refl) some reach.0 reach.1
division-proper MaxSub cut p some reach = by_halves MaxSub cut p (λ q. refl) some reach.0 reach.1
division-proper FirstMin cut p some reach = by_halves FirstMin cut p (λ q. refl) some reach.0 reach.1
division-proper Bracket cut p some reach = by_halves Bracket cut p (λ q. refl) some reach.0 reach.1

-- what may be asked for is in reach
pub IsInReach-part : (rule : DcRule) (cut : ℕ) (ns : List ℤ) (p : Span) → length ns ≤ 262144 → IsPart rule ns p → (rule ≡ Fib → p.1 ≤ cut + 24) → IsInReach rule cut p
IsInReach-part Fib cut ns p few part near = (part.0, near refl)
IsInReach-part Sum cut ns p few part near = (part.0, omega (arith, part.1, few))
IsInReach-part MaxSub cut ns p few part near = (part.0, omega (arith, part.1, few))
IsInReach-part FirstMin cut ns p few part near = (part.0, omega (arith, part.1, few))
IsInReach-part Bracket cut ns p few part near = (part.0, omega (arith, part.1, few))
