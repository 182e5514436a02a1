-- Answers that come back in any order give the value of the whole.
use Rattle.std.proofs.Common.{◌≡◌, ℕ, suc, zero, ◌+◌, inl, inr, List, Option, Some, ℤ, refl, ap, ◌∙◌, sym}
use Rattle.std.proofs.lemmas.Bool.{cases_Bool, cond-true, cond-false}
use Rattle.ff_dc.specs.declared.rule.DcRule.{DcRule}
use Rattle.ff_dc.specs.Spans.{Span, size, is_small}
use Rattle.ff_dc.specs.Rules.{value, divided, combined}
use Rattle.ff_dc.specs.Dividing.{dc_within}
use Rattle.ff_dc.specs.Divisions.{Division, Whole, Cut, division, division_within, part_count, part_at, Answers, Has, CameBack, nothing, at_once, combined_from, AnyOrderLaw}
use Rattle.ff_dc.proofs.Levels.{Steps, divides}
use Rattle.ff_dc.proofs.PartsAt.{part_at-first, part_at-left, part_at-right}

-- what a division says, part by part
abbrev answer : DcRule → List ℤ → Division → List ℤ
answer rule ns (Whole p) = value rule ns p
answer rule ns (Cut p l r) = combined rule (answer rule ns l) (answer rule ns r)

same-part : (e f : Division) (o : Option Division) → o ≡ Some e → o ≡ Some f → e ≡ f
same-part e f o p q = cc

came : (rule : DcRule) (ns : List ℤ) (whole : Division) (done : Answers) → CameBack rule ns whole done
    → (n : ℕ) (v : List ℤ) (d : Division) → Has done n v → part_at whole n ≡ Some d → v ≡ answer rule ns d
came rule ns whole _ nothing n v d has is = absurd has
came rule ns whole _ (at_once done k p back eq) n v d has is =
    elim has [
      | inl h ↦ sym h.1 ∙ ap (λ (e : Division). answer rule ns e) (same-part (Whole p) d (part_at whole n) (ap (λ (j : ℕ). part_at whole j) (sym h.0) ∙ eq) is)
      | inr h ↦ came rule ns whole done back n v d h is
    ]
came rule ns whole _ (combined_from done k p l r x y back eq hx hy) n v d has is =
    elim has [
      | inl h ↦
          sym h.1
          ∙ ap (λ (z : List ℤ). combined rule z y) (came rule ns whole done back (k + 1) x l hx (part_at-left whole k p l r eq))
          ∙ ap (λ (z : List ℤ). combined rule (answer rule ns l) z) (came rule ns whole done back (k + 1 + part_count l) y r hy (part_at-right whole k p l r eq))
          ∙ ap (λ (e : Division). answer rule ns e) (same-part (Cut p l r) d (part_at whole n) (ap (λ (j : ℕ). part_at whole j) (sym h.0) ∙ eq) is)
      | inr h ↦ came rule ns whole done back n v d h is
    ]

answer-is : (rule : DcRule) (depth cut : ℕ) (ns : List ℤ) (p : Span) → answer rule ns (division_within depth rule cut p) ≡ dc_within depth rule cut ns p
answer-is rule zero cut ns p = refl
answer-is rule (suc depth) cut ns p =
    elim (cases_Bool (is_small p cut)) [
      | inl e ↦ ap (λ (d : Division). answer rule ns d) (cond-true _ _ _ e) ∙ sym (cond-true _ _ _ e)
      | inr e ↦
          ap (λ (d : Division). answer rule ns d) (cond-false _ _ _ e)
          ∙ ap (λ (z : List ℤ). combined rule z (answer rule ns (division_within depth rule cut (divided rule p).1))) (answer-is rule depth cut ns (divided rule p).0)
          ∙ ap (λ (z : List ℤ). combined rule (dc_within depth rule cut ns (divided rule p).0) z) (answer-is rule depth cut ns (divided rule p).1)
          ∙ sym (cond-false _ _ _ e)
    ]

pub any-order : (rule : DcRule) → Steps rule → AnyOrderLaw rule
any-order rule steps cut ns p asked done back v has =
    came rule ns (division rule cut p) done back 0 v (division rule cut p) has (part_at-first (division rule cut p))
    ∙ answer-is rule (size p) cut ns p
    ∙ divides rule steps cut ns p asked
