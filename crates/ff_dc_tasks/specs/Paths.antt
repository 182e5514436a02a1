-- The paths to the parts of a division, and divisions as a rule and a cut have them.
use Rattle.std.specs.Prelude.{◌≡◌, ℕ, zero, suc, ◌+◌, ◌-◌, ◌*◌, ◌/◌, ◌%◌, ◌^◌, ◌≤◌, ◌==◌, nat_le, if◌then◌else◌, true, false}
use Rattle.ff_dc.specs.declared.rule.DcRule.{DcRule}
use Rattle.ff_dc.specs.declared.rule.DcRule.TheVariants.{Fib, Sum, MaxSub, FirstMin, Bracket}
use Rattle.ff_dc.specs.Spans.{Span, size, is_small}
use Rattle.ff_dc.specs.Rules.{divided}
use Rattle.ff_dc.specs.Divisions.{Division, Whole, Cut, part_count}

-- the path to the part with a number, from a part to which the path is `c`: to the two parts of a part it is twice as far, and one further
abbrev pub path_from : ℕ → Division → ℕ → ℕ
path_from c (Whole p) n = c
path_from c (Cut p l r) n =
    if n == 0 then c else
    (if nat_le n (part_count l) then path_from (2 * c) l (n - 1) else path_from (2 * c + 1) r (n - 1 - part_count l))

-- the path to a part, where that to the whole is 1
abbrev pub path_at : Division → ℕ → ℕ
path_at whole n = path_from 1 whole n

-- the number of a part, by the id of its task
abbrev pub number_in : ℕ → ℕ
number_in id = id % 2 ^ 32

-- the path to a part, by the id of its task
abbrev pub path_in : ℕ → ℕ
path_in id = id / 2 ^ 32

-- the part itself
abbrev pub root : Division → Span
root (Whole p) = p
root (Cut p l r) = p

-- a division no more than so many levels deep
abbrev pub IsLow : ℕ → Division → Type 0
IsLow depth (Whole p) = Unit {0}
IsLow zero (Cut p l r) = ⊥
IsLow (suc depth) (Cut p l r) = IsLow depth l × IsLow depth r

-- parts are divided as the rule says, down to those that are small enough
abbrev pub IsProper : DcRule → ℕ → Division → Type 0
IsProper rule cut (Whole p) = is_small p cut ≡ true
IsProper rule cut (Cut p l r) =
    (is_small p cut ≡ false) × (root l ≡ (divided rule p).0) × (root r ≡ (divided rule p).1) × IsProper rule cut l × IsProper rule cut r

-- a part that a rule may be asked for: divided down to a cut, it comes to small parts in at most 24 levels
abbrev pub IsInReach : DcRule → ℕ → Span → Type 0
IsInReach Fib cut p = (p.0 ≡ 0) × (p.1 ≤ cut + 24)
IsInReach Sum cut p = (p.0 ≤ p.1) × (size p ≤ 262144)
IsInReach MaxSub cut p = (p.0 ≤ p.1) × (size p ≤ 262144)
IsInReach FirstMin cut p = (p.0 ≤ p.1) × (size p ≤ 262144)
IsInReach Bracket cut p = (p.0 ≤ p.1) × (size p ≤ 262144)
