-- The arguments of an operation by their places, counted from 0.
use Rattle.std.specs.Prelude.{ℕ, ◌^◌, nat_lt, if◌then◌else◌, List, [], Option, None, Some, slice_get, ℤ, pos, negsuc}
use Rattle.ff_rec.specs.declared.cmp.Cmp.{Cmp}
use Rattle.ff_rec.specs.declared.cmp.Cmp.TheVariants.{Eq}
use Rattle.ff_ops.specs.declared.arg.Arg.{Arg}
use Rattle.ff_ops.specs.declared.arg.Arg.TheVariants.{Num, Cmp as Compared, Text}

-- the number at a place; 0 where there is none
abbrev pub number_or_0 : Option Arg → ℤ
number_or_0 None = pos 0
number_or_0 (Some (Num n)) = n
number_or_0 (Some (Compared cmp)) = pos 0
number_or_0 (Some (Text bytes)) = pos 0

abbrev pub number_at : List Arg → ℕ → ℤ
number_at args k = number_or_0 (slice_get args k)

-- a number as a count or a field number, of 32 bits; 0 for any other number
abbrev pub count_or_0 : ℤ → ℕ
count_or_0 (pos n) = if nat_lt n (2 ^ 32) then n else 0
count_or_0 (negsuc n) = 0

abbrev pub count_at : List Arg → ℕ → ℕ
count_at args k = count_or_0 (number_at args k)

-- the comparison at a place; equality where there is none
abbrev pub cmp_or_equal : Option Arg → Cmp
cmp_or_equal None = Eq
cmp_or_equal (Some (Num n)) = Eq
cmp_or_equal (Some (Compared cmp)) = cmp
cmp_or_equal (Some (Text bytes)) = Eq

abbrev pub cmp_at : List Arg → ℕ → Cmp
cmp_at args k = cmp_or_equal (slice_get args k)

-- the text at a place; the empty one where there is none
abbrev pub text_or_empty : Option Arg → List ℕ
text_or_empty None = []
text_or_empty (Some (Num n)) = []
text_or_empty (Some (Compared cmp)) = []
text_or_empty (Some (Text bytes)) = bytes

abbrev pub text_at : List Arg → ℕ → List ℕ
text_at args k = text_or_empty (slice_get args k)
