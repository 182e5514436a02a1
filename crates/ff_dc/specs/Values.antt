-- What the rules say of the numbers of a whole part.
use Rattle.std.specs.Prelude.{ℕ, zero, suc, ◌+◌, ◌-◌, ◌==◌, List, [], ◌∷◌, map, if◌then◌else◌, ℤ, pos, ◌+ℤ◌, int_le}
use Rattle.std.specs.Int.{int_max, int_min}
use Rattle.std.specs.List.{fold, flat_map, position_or_len}

-- f(n) and f(n + 1), where f(0) = 0, f(1) = 1 and f(n + 2) = f(n + 1) + f(n)
abbrev pub fibs : ℕ → ℕ × ℕ
fibs zero = (0, 1)
fibs (suc n) = let f : ℕ × ℕ = fibs n in (f.1, f.1 + f.0)

-- the number of Fibonacci at a place
abbrev pub fib : ℕ → ℕ
fib n = (fibs n).0

-- the sum of numbers
abbrev pub total : List ℤ → ℤ
total [] = pos 0
total (x ∷ xs) = x +ℤ total xs

-- the greatest of some numbers and 0
abbrev pub greatest : List ℤ → ℤ
greatest [] = pos 0
greatest (x ∷ xs) = int_max x (greatest xs)

-- every prefix, the empty one and the whole list too
abbrev pub prefixes : List ℤ → List (List ℤ)
prefixes [] = [] ∷ []
prefixes (x ∷ xs) = [] ∷ map (λ ys. x ∷ ys) (prefixes xs)

-- every suffix
abbrev pub suffixes : List ℤ → List (List ℤ)
suffixes [] = [] ∷ []
suffixes (x ∷ xs) = (x ∷ xs) ∷ suffixes xs

-- every run of neighbours: each prefix of each suffix
abbrev pub runs : List ℤ → List (List ℤ)
runs xs = flat_map prefixes (suffixes xs)

-- the greatest of the sums of some lists; the empty list counts
abbrev pub best : List (List ℤ) → ℤ
best xss = greatest (map total xss)

-- the least of a number and others
abbrev pub least : ℤ → List ℤ → ℤ
least x [] = x
least x (y ∷ ys) = int_min x (least y ys)

-- the first place of a number that is at most this, from 0
abbrev pub place : ℤ → List ℤ → ℕ
place m xs = position_or_len (λ x. int_le x m) xs

-- closes that found no open, and opens that wait for a close
abbrev pub Loose : Type 0
Loose = ℕ × ℕ

-- one number more: 40 opens, and 41 closes an open that waits, if there is one
abbrev pub matched : Loose → ℤ → Loose
matched s (pos n) =
    if n == 40 then (s.0, s.1 + 1) else
    (if n == 41 then (if s.1 == 0 then (s.0 + 1, 0) else (s.0, s.1 - 1)) else s)
matched s _ = s

-- what is loose after all the numbers
abbrev pub loose : List ℤ → Loose
loose xs = fold matched (0, 0) xs
