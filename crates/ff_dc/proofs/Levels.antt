-- From one cut to every division: where a cut gives the values of the whole part, all levels do.
use Rattle.std.proofs.Common.{◌≡◌, ℕ, suc, zero, ◌<◌, inl, inr, List, ℤ, refl, ap, ◌∙◌, sym}
use Rattle.std.proofs.lemmas.Bool.{cases_Bool, cond-true, cond-false, leb-false}
use Rattle.ff_dc.specs.declared.rule.DcRule.{DcRule}
use Rattle.ff_dc.specs.Spans.{Span, size, is_small}
use Rattle.ff_dc.specs.Rules.{value, divided, combined}
use Rattle.ff_dc.specs.Dividing.{dc_within, dc, IsAsked, DividingLaw, LevelsLaw}

-- one cut: both parts may be asked for, and their values give those of the whole
pub record Step (rule : DcRule) (cut : ℕ) (ns : List ℤ) (p : Span) : Type 0 where
  pub left : IsAsked rule cut ns (divided rule p).0
  pub right : IsAsked rule cut ns (divided rule p).1
  pub gives : combined rule (value rule ns (divided rule p).0) (value rule ns (divided rule p).1) ≡ value rule ns p

abbrev pub Steps : DcRule → Type 0
Steps rule = (cut : ℕ) (ns : List ℤ) (p : Span) → IsAsked rule cut ns p → cut < size p → Step rule cut ns p

all-levels : (rule : DcRule) → Steps rule → (depth : ℕ) (cut : ℕ) (ns : List ℤ) (p : Span) → IsAsked rule cut ns p → dc_within depth rule cut ns p ≡ value rule ns p
all-levels rule steps zero cut ns p asked = refl
all-levels rule steps (suc depth) cut ns p asked =
    elim (cases_Bool (is_small p cut)) [
      | inl e ↦ cond-true _ _ _ e
      | inr e ↦
          let s : Step rule cut ns p = steps cut ns p asked (leb-false (size p) cut e) in
          cond-false _ _ _ e
          ∙ ap (λ (v : List ℤ). combined rule v (dc_within depth rule cut ns (divided rule p).1)) (all-levels rule steps depth cut ns (divided rule p).0 s.left)
          ∙ ap (λ (w : List ℤ). combined rule (value rule ns (divided rule p).0) w) (all-levels rule steps depth cut ns (divided rule p).1 s.right)
          ∙ s.gives
    ]

pub divides : (rule : DcRule) → Steps rule → DividingLaw rule
divides rule steps cut ns p asked = all-levels rule steps (size p) cut ns p asked

pub levels : (rule : DcRule) → Steps rule → LevelsLaw rule
levels rule steps cut ns p asked large =
    let s : Step rule cut ns p = steps cut ns p asked large in
    divides rule steps cut ns p asked
    ∙ sym s.gives
    ∙ sym (ap (λ (v : List ℤ). combined rule v (value rule ns (divided rule p).1)) (divides rule steps cut ns (divided rule p).0 s.left))
    ∙ sym (ap (λ (w : List ℤ). combined rule (dc rule cut ns (divided rule p).0) w) (divides rule steps cut ns (divided rule p).1 s.right))
