-- How a number is written among words.
use Rattle.std.specs.Prelude.{ℕ, ◌==◌, ◌&&◌, nat_le, nat_lt, if◌then◌else◌, List, [], ◌∷◌, length, Option, None, Some, option_and_then}
use Rattle.ff_rec.specs.Number.{numeral}

-- digits without a sign, the first of them no zero (48) but in `0` itself
abbrev pub plain_number : List ℕ → Option ℕ
plain_number [] = None
plain_number (c ∷ cs) = if c == 48 && nat_lt 0 (length cs) then None else numeral (c ∷ cs)

-- a number from `least` to `most`
abbrev pub within : ℕ → ℕ → ℕ → Option ℕ
within least most n = if nat_le least n && nat_le n most then Some n else None

-- the number from `least` to `most` that a text is
abbrev pub number_in : ℕ → ℕ → List ℕ → Option ℕ
number_in least most text = option_and_then (within least most) (plain_number text)
