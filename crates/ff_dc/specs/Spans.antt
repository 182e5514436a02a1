-- Parts: the places from a first one up to a second one, which is left out; and how a part is cut in two.
use Rattle.std.specs.Prelude.{ℕ, ◌+◌, ◌-◌, ◌/◌, ◌^◌, ◌<◌, ◌≤◌, nat_le, ◌==◌, ◌&&◌, Bool, if◌then◌else◌, List, take, drop, ℤ}

-- where a part begins, and where it ends
abbrev pub Span : Type 0
Span = ℕ × ℕ

-- how many places a part has
abbrev pub size : Span → ℕ
size p = p.1 - p.0

-- what a `Part` can hold
abbrev pub IsSpan : Span → Type 0
IsSpan p = (p.0 ≤ p.1) × (p.1 < 2 ^ 32)

-- the numbers at the places of a part, cut at their end
abbrev pub within : List ℤ → Span → List ℤ
within ns p = take (size p) (drop p.0 ns)

-- whether a part is small enough to be answered at once
abbrev pub is_small : Span → ℕ → Bool
is_small p cut = nat_le (size p) cut

-- a range, cut at half its size
abbrev pub halves : Span → Span × Span
halves p = ((p.0, p.0 + size p / 2), (p.0 + size p / 2, p.1))

-- the two numbers before `hi`, as parts from 0; a part that has none gives itself and an empty part
abbrev pub befores : Span → Span × Span
befores p = if (p.0 == 0) && nat_le 2 (size p) then ((0, p.1 - 1), (0, p.1 - 2)) else (p, (p.1, p.1))
