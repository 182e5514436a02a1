-- Which fields are numbers, and how a number is printed.
use Rattle.std.specs.Prelude.{◌≡◌, ℕ, ◌^◌, nat_lt, nat_le, ◌==◌, if◌then◌else◌, List, [], ◌∷◌, Option, None, Some, ℤ, pos, neg_ℤ, ◌≤ℤ◌, ◌<ℤ◌}
use Rattle.std.specs.Prelude.{Bool, false, ◌&&◌}
use Rattle.std.specs.Str.{all_ascii_digits}
use Rattle.std.specs.Str.Parse.{digits_value}
use Rattle.std.specs.Fmt.{signed_decimal}

-- one digit or more, and no other byte
abbrev pub is_numeral : List ℕ → Bool
is_numeral [] = false
is_numeral (c ∷ cs) = all_ascii_digits (c ∷ cs)

-- the value of digits
abbrev pub numeral : List ℕ → Option ℕ
numeral ds = if is_numeral ds then Some (digits_value 10 ds) else None

-- digits without a sign, or with a `+`: a value below 2^63
abbrev pub positive : List ℕ → Option ℤ
positive ds = if is_numeral ds && nat_lt (digits_value 10 ds) (2 ^ 63) then Some (pos (digits_value 10 ds)) else None

-- digits behind a `-`: a value of at most 2^63, turned negative
abbrev pub negative : List ℕ → Option ℤ
negative ds = if is_numeral ds && nat_le (digits_value 10 ds) (2 ^ 63) then Some (neg_ℤ (pos (digits_value 10 ds))) else None

-- the number that bytes are: an optional `+` (43) or `-` (45), then digits, with a value from -2^63 to 2^63 - 1
abbrev pub number : List ℕ → Option ℤ
number [] = None
number (c ∷ cs) = if c == 45 then negative cs else (if c == 43 then positive cs else positive (c ∷ cs))

-- a value that a field can hold as a number
abbrev pub IsNumber : ℤ → Type 0
IsNumber n = (neg_ℤ (pos (2 ^ 63)) ≤ℤ n) × (n <ℤ pos (2 ^ 63))

-- a number as it is printed: without `+` and without leading zeros
abbrev pub printed : ℤ → List ℕ
printed n = signed_decimal n

-- what is printed of a number is read as that number
abbrev pub PrintedIsRead : Type 0
PrintedIsRead = (n : ℤ) → IsNumber n → number (printed n) ≡ Some n
