-- What four functions have to answer to keep a rule. `pre` is which calls may be made, and `post` which results they may give.
use Rattle.std.specs.Prelude.{◌≡◌, ℕ, ◌^◌, ◌<◌, Bool, List, length, ℤ}
use Rattle.std.specs.List.{All}
use denote.Ref.{Bor}
use Rattle.ff_rec.specs.Number.{IsNumber}
use Rattle.ff_dc.specs.declared.rule.DcRule.{DcRule}
use Rattle.ff_dc.specs.Spans.{Span, IsSpan, is_small}
use Rattle.ff_dc.specs.Fours.{IsFour}
use Rattle.ff_dc.specs.Rules.{value, divided, combined}

-- it tells whether a part is small enough
abbrev pub TellsSmall : (pre : Span → ℕ → Type 0) (post : Span → ℕ → Bool → Type 0) → Type 0
TellsSmall pre post =
    (p : Span) (cut : ℕ) → IsSpan p → cut < 2 ^ 32
    → pre p cut × ((b : Bool) → post p cut b → b ≡ is_small p cut)

-- it answers a part at once as the rule says
abbrev pub AnswersAtOnce : DcRule → (pre : Bor (List ℤ) → Span → Type 0) (post : Bor (List ℤ) → Span → List ℤ → Type 0) → Type 0
AnswersAtOnce rule pre post =
    (ns : Bor (List ℤ)) (p : Span) → All IsNumber ns.now → length ns.now < 2 ^ 63 → IsSpan p
    → pre ns p × ((v : List ℤ) → post ns p v → v ≡ value rule ns.now p)

-- it divides as the rule says
abbrev pub Divides : DcRule → (pre : Span → Type 0) (post : Span → Span × Span → Type 0) → Type 0
Divides rule pre post =
    (p : Span) → IsSpan p → pre p × ((ps : Span × Span) → post p ps → ps ≡ divided rule p)

-- it combines as the rule says
abbrev pub Combines : DcRule → (pre : List ℤ → List ℤ → Type 0) (post : List ℤ → List ℤ → List ℤ → Type 0) → Type 0
Combines rule pre post =
    (v w : List ℤ) → IsFour v → IsFour w → pre v w × ((r : List ℤ) → post v w r → r ≡ combined rule v w)
