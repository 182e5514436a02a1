-- The four values of a part, from those of its two parts.
use Rattle.std.specs.Prelude.{Bool, not, ◌&&◌, ◌||◌, List, [], ◌∷◌, if◌then◌else◌, ℤ, pos, ◌+ℤ◌, ◌-ℤ◌, int_le}
use Rattle.std.specs.Int.{int_max, int_min}
use Rattle.ff_dc.specs.Fours.{at, only, clip}

-- the sum of the first values
abbrev pub added : List ℤ → List ℤ → List ℤ
added v w = only (clip (at 0 v +ℤ at 0 w))

-- sums, and the greatest sums of a prefix, of a suffix and of a run
abbrev pub runs_joined : List ℤ → List ℤ → List ℤ
runs_joined v w =
    clip (at 0 v +ℤ at 0 w)
    ∷ clip (int_max (at 1 v) (at 0 v +ℤ at 1 w))
    ∷ clip (int_max (at 2 w) (at 0 w +ℤ at 2 v))
    ∷ clip (int_max (int_max (at 3 v) (at 3 w)) (at 2 v +ℤ at 1 w))
    ∷ []

-- whether a third value says that there is a least number
abbrev pub is_some : List ℤ → Bool
is_some v = int_le (at 2 v) (pos 1) && int_le (pos 1) (at 2 v)

-- the left part where it has a least number and the right part none that is less
abbrev pub firsts_joined : List ℤ → List ℤ → List ℤ
firsts_joined v w = if is_some v && (int_le (at 0 v) (at 0 w) || not (is_some w)) then v else w

-- opens of the left part meet closes of the right part
abbrev pub loose_joined : List ℤ → List ℤ → List ℤ
loose_joined v w =
    clip (at 0 v +ℤ at 0 w -ℤ int_min (at 1 v) (at 0 w))
    ∷ clip (at 1 w +ℤ at 1 v -ℤ int_min (at 1 v) (at 0 w))
    ∷ pos 0 ∷ pos 0 ∷ []
