-- The arguments of operations: of which kind they are, within which range, and how they stand in a text.
use Rattle.std.specs.Prelude.{ℕ, Bool, true, false, IsTrue, not, ◌&&◌, List, [], ◌∷◌, ◌++◌, ℤ, pos, int_le, codes}
use Rattle.ff_rec.specs.Number.{printed}
use Rattle.ff_rec.specs.declared.cmp.Cmp.{Cmp}
use Rattle.ff_rec.specs.declared.cmp.Cmp.TheVariants.{Lt, Le, Eq, Ne, Ge, Gt}
use Rattle.ff_ops.specs.declared.arg.Arg.{Arg}
use Rattle.ff_ops.specs.declared.arg.Arg.TheVariants.{Num, Cmp as Compared, Text}
use Rattle.ff_ops.specs.declared.arg.ArgKind.{ArgKind}
use Rattle.ff_ops.specs.declared.arg.ArgKind.TheVariants.{Field, Num as AnyNumber, NonZero, Count, Cmp as Comparison, Text as AnyText}

-- whether a kind is one of numbers
abbrev pub is_numeric : ArgKind → Bool
is_numeric Field = true
is_numeric AnyNumber = true
is_numeric NonZero = true
is_numeric (Count low high) = true
is_numeric Comparison = false
is_numeric AnyText = false

-- whether it is comparisons
abbrev pub is_comparison : ArgKind → Bool
is_comparison Field = false
is_comparison AnyNumber = false
is_comparison NonZero = false
is_comparison (Count low high) = false
is_comparison Comparison = true
is_comparison AnyText = false

-- whether it is texts
abbrev pub is_text : ArgKind → Bool
is_text Field = false
is_text AnyNumber = false
is_text NonZero = false
is_text (Count low high) = false
is_text Comparison = false
is_text AnyText = true

-- whether an argument is of a kind, its range left aside
abbrev pub suits : Arg → ArgKind → Bool
suits (Num n) kind = is_numeric kind
suits (Compared cmp) kind = is_comparison kind
suits (Text bytes) kind = is_text kind

-- whether a number is within the range of a kind: a field number is from 1 to 64
abbrev pub number_within : ℤ → ArgKind → Bool
number_within n Field = int_le (pos 1) n && int_le n (pos 64)
number_within n AnyNumber = true
number_within n NonZero = not (int_le n (pos 0) && int_le (pos 0) n)
number_within n (Count low high) = int_le (pos low) n && int_le n (pos high)
number_within n Comparison = true
number_within n AnyText = true

-- whether an argument is within the range of a kind
abbrev pub is_within : Arg → ArgKind → Bool
is_within (Num n) kind = number_within n kind
is_within (Compared cmp) kind = true
is_within (Text bytes) kind = true

-- whether an argument is of a kind, and within its range
abbrev pub fits : Arg → ArgKind → Bool
fits a kind = suits a kind && is_within a kind

-- arguments of these kinds, each within its range
abbrev pub AllFit : List Arg → List ArgKind → Type 0
AllFit [] [] = Unit {0}
AllFit [] (kind ∷ kinds) = ⊥
AllFit (a ∷ args) [] = ⊥
AllFit (a ∷ args) (kind ∷ kinds) = IsTrue (fits a kind) × AllFit args kinds

-- the mark of a comparison
abbrev pub mark_of : Cmp → List ℕ
mark_of Lt = codes "<"
mark_of Le = codes "<="
mark_of Eq = codes "="
mark_of Ne = codes "!="
mark_of Ge = codes ">="
mark_of Gt = codes ">"

-- an argument as it stands in a text: a number in digits, a comparison by its mark, a text in its quotes
abbrev pub printed_argument : Arg → List ℕ
printed_argument (Num n) = printed n
printed_argument (Compared cmp) = mark_of cmp
printed_argument (Text bytes) = 34 ∷ bytes ++ 34 ∷ []
