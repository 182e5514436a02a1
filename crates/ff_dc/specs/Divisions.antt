-- The parts of a division and their numbers, and the answers of tasks that come back in any order.
use Rattle.std.specs.Prelude.{◌≡◌, ℕ, zero, suc, ◌+◌, ◌-◌, ◌==◌, nat_le, ◌⊎◌, List, [], ◌∷◌, Option, Some, None, if◌then◌else◌, ℤ}
use Rattle.ff_dc.specs.declared.rule.DcRule.{DcRule}
use Rattle.ff_dc.specs.Spans.{Span, size, is_small}
use Rattle.ff_dc.specs.Rules.{value, divided, combined}
use Rattle.ff_dc.specs.Dividing.{IsAsked}

-- a part that isn't divided, or one that is, with its two parts
pub data Division : Type 0 where
  Whole : Span → Division
  Cut : Span → Division → Division → Division

-- how a part is divided, no more than `depth` levels deep
abbrev pub division_within : ℕ → DcRule → ℕ → Span → Division
division_within zero rule cut p = Whole p
division_within (suc depth) rule cut p =
    if is_small p cut
    then Whole p
    else Cut p (division_within depth rule cut (divided rule p).0) (division_within depth rule cut (divided rule p).1)

-- how a part is divided, as many levels deep as it has places
abbrev pub division : DcRule → ℕ → Span → Division
division rule cut p = division_within (size p) rule cut p

-- how many parts there are, divided or not
abbrev pub part_count : Division → ℕ
part_count (Whole p) = 1
part_count (Cut p l r) = 1 + part_count l + part_count r

-- the part with a number: a part stands before its two parts, and the first of these with all its parts before the second
abbrev pub part_at : Division → ℕ → Option Division
part_at (Whole p) n = if n == 0 then Some (Whole p) else None
part_at (Cut p l r) n =
    if n == 0 then Some (Cut p l r) else
    (if nat_le n (part_count l) then part_at l (n - 1) else part_at r (n - 1 - part_count l))

-- the numbers of answered parts with their values, the last first
abbrev pub Answers : Type 0
Answers = List (ℕ × List ℤ)

-- a part with this number was answered, with these values
abbrev pub Has : Answers → ℕ → List ℤ → Type 0
Has [] n v = ⊥
Has (a ∷ done) n v = ((a.0 ≡ n) × (a.1 ≡ v)) ⊎ Has done n v

-- answers that came back: a part that isn't divided at any time, one that is once both its parts have their values
pub data CameBack (rule : DcRule) (ns : List ℤ) (whole : Division) : Answers → Type 0 where
  nothing : CameBack rule ns whole []
  at_once : (done : Answers) (n : ℕ) (p : Span) → CameBack rule ns whole done → part_at whole n ≡ Some (Whole p)
      → CameBack rule ns whole ((n, value rule ns p) ∷ done)
  combined_from : (done : Answers) (n : ℕ) (p : Span) (l r : Division) (v w : List ℤ) → CameBack rule ns whole done
      → part_at whole n ≡ Some (Cut p l r) → Has done (n + 1) v → Has done (n + 1 + part_count l) w
      → CameBack rule ns whole ((n, combined rule v w) ∷ done)

-- whatever the order, the answer of the whole is its value
abbrev pub AnyOrderLaw : DcRule → Type 0
AnyOrderLaw rule =
    (cut : ℕ) (ns : List ℤ) (p : Span) → IsAsked rule cut ns p
    → (done : Answers) → CameBack rule ns (division rule cut p) done
    → (v : List ℤ) → Has done 0 v → v ≡ value rule ns p
