-- Divide and conquer, and the law that it gives the values of the whole part.
use Rattle.std.specs.Prelude.{◌≡◌, ℕ, zero, suc, ◌<◌, ◌≤◌, List, length, if◌then◌else◌, ℤ}
use Rattle.std.specs.List.{All}
use Rattle.ff_rec.specs.Number.{IsNumber}
use Rattle.ff_dc.specs.declared.rule.DcRule.{DcRule}
use Rattle.ff_dc.specs.declared.rule.DcRule.TheVariants.{Fib, Sum, MaxSub, FirstMin, Bracket}
use Rattle.ff_dc.specs.Spans.{Span, size, is_small}
use Rattle.ff_dc.specs.Rules.{value, divided, combined}

-- a part is answered at once where it is small enough, else by its two parts; no more than `depth` levels deep
abbrev pub dc_within : ℕ → DcRule → ℕ → List ℤ → Span → List ℤ
dc_within zero rule cut ns p = value rule ns p
dc_within (suc depth) rule cut ns p =
    if is_small p cut
    then value rule ns p
    else combined rule (dc_within depth rule cut ns (divided rule p).0) (dc_within depth rule cut ns (divided rule p).1)

-- as many levels as the part has places, since each level makes it smaller
abbrev pub dc : DcRule → ℕ → List ℤ → Span → List ℤ
dc rule cut ns p = dc_within (size p) rule cut ns p

-- the parts that a rule is run on
abbrev pub IsPart : DcRule → List ℤ → Span → Type 0
IsPart Fib ns p = (p.0 ≡ 0) × (p.1 ≤ 90)
IsPart Sum ns p = (p.0 ≤ p.1) × (p.1 ≤ length ns)
IsPart MaxSub ns p = (p.0 ≤ p.1) × (p.1 ≤ length ns)
IsPart FirstMin ns p = (p.0 ≤ p.1) × (p.1 ≤ length ns)
IsPart Bracket ns p = (p.0 ≤ p.1) × (p.1 ≤ length ns)

-- what a run of divide and conquer may be asked for
pub record IsAsked (rule : DcRule) (cut : ℕ) (ns : List ℤ) (p : Span) : Type 0 where
  pub cuts : 1 ≤ cut
  pub few : length ns ≤ 262144
  pub numbers : All IsNumber ns
  pub part : IsPart rule ns p

-- by its parts or of the whole, the values are the same
abbrev pub DividingLaw : DcRule → Type 0
DividingLaw rule = (cut : ℕ) (ns : List ℤ) (p : Span) → IsAsked rule cut ns p → dc rule cut ns p ≡ value rule ns p

-- `dc` has levels enough: of a part that isn't small, it is what its two parts give
abbrev pub LevelsLaw : DcRule → Type 0
LevelsLaw rule =
    (cut : ℕ) (ns : List ℤ) (p : Span) → IsAsked rule cut ns p → cut < size p
    → dc rule cut ns p ≡ combined rule (dc rule cut ns (divided rule p).0) (dc rule cut ns (divided rule p).1)
