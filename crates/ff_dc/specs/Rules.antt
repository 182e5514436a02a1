-- What each rule says: the four values of a part, how a part is divided, and how the values of two parts are combined.
use Rattle.std.specs.Prelude.{ℕ, ◌+◌, min, List, [], ◌∷◌, ℤ, pos}
use Rattle.ff_dc.specs.declared.rule.DcRule.{DcRule}
use Rattle.ff_dc.specs.declared.rule.DcRule.TheVariants.{Fib, Sum, MaxSub, FirstMin, Bracket}
use Rattle.ff_dc.specs.Spans.{Span, size, within, halves, befores}
use Rattle.ff_dc.specs.Fours.{only, clip}
use Rattle.ff_dc.specs.Values.{fib, total, best, prefixes, suffixes, runs, least, place, loose}
use Rattle.ff_dc.specs.Joining.{added, runs_joined, firsts_joined, loose_joined}

-- the number of Fibonacci at the size of a part, or at 90
abbrev pub fib_of : Span → List ℤ
fib_of p = only (clip (pos (fib (min (size p) 90))))

-- the sum
abbrev pub sum_of : List ℤ → List ℤ
sum_of xs = only (clip (total xs))

-- the sum, and the greatest sums of a prefix, of a suffix and of a run of neighbours
abbrev pub maxsub_of : List ℤ → List ℤ
maxsub_of xs = clip (total xs) ∷ clip (best (prefixes xs)) ∷ clip (best (suffixes xs)) ∷ clip (best (runs xs)) ∷ []

-- the least number and its first place, from 1 in the whole list, of numbers with `lo` others before them
abbrev pub firstmin_of : ℕ → List ℤ → List ℤ
firstmin_of lo [] = only (pos 0)
firstmin_of lo (x ∷ xs) = least x xs ∷ pos (lo + place (least x xs) (x ∷ xs) + 1) ∷ pos 1 ∷ pos 0 ∷ []

-- the closes without their open, and the opens without their close
abbrev pub bracket_of : List ℤ → List ℤ
bracket_of xs = clip (pos (loose xs).0) ∷ clip (pos (loose xs).1) ∷ pos 0 ∷ pos 0 ∷ []

-- the four values of a part
abbrev pub value : DcRule → List ℤ → Span → List ℤ
value Fib ns p = fib_of p
value Sum ns p = sum_of (within ns p)
value MaxSub ns p = maxsub_of (within ns p)
value FirstMin ns p = firstmin_of p.0 (within ns p)
value Bracket ns p = bracket_of (within ns p)

-- the two parts of a part
abbrev pub divided : DcRule → Span → Span × Span
divided Fib p = befores p
divided Sum p = halves p
divided MaxSub p = halves p
divided FirstMin p = halves p
divided Bracket p = halves p

-- the four values of a part, from those of its two parts
abbrev pub combined : DcRule → List ℤ → List ℤ → List ℤ
combined Fib v w = added v w
combined Sum v w = added v w
combined MaxSub v w = runs_joined v w
combined FirstMin v w = firsts_joined v w
combined Bracket v w = loose_joined v w
