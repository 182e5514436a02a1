-- The values of operations: exact integers, and bad where one isn't within 64 bits.
use Rattle.std.specs.Prelude.{◌^◌, Bool, ◌&&◌, if◌then◌else◌, Option, None, Some, ℤ, pos, neg_ℤ, ◌+ℤ◌, ◌-ℤ◌, ◌*ℤ◌, int_lt, int_le, int_div}
use Rattle.std.specs.Int.{int_min, int_max}
use Rattle.ff_prog.specs.declared.op.MdfOp.{MdfOp}
use Rattle.ff_prog.specs.declared.op.MdfOp.TheVariants.{Copy, Neg, Add, Sub, Mul, Div, Rem, Min, Max, Pick, DivMod}
use Rattle.ff_mdf.specs.declared.value.Value.{Value}
use Rattle.ff_mdf.specs.declared.value.Value.TheVariants.{Num, Bad}
use Rattle.ff_mdf.specs.declared.value.MdfAnswer.{MdfAnswer}

-- a number within -2^63 and 2^63 - 1
abbrev pub fits : ℤ → Bool
fits n = int_le (neg_ℤ (pos (2 ^ 63))) n && int_lt n (pos (2 ^ 63))

-- a number, or bad where it is out of range
abbrev pub fitting : ℤ → Value
fitting n = if fits n then Num n else Bad

-- whether a number is 0
abbrev pub is_zero : ℤ → Bool
is_zero n = int_le n (pos 0) && int_le (pos 0) n

-- the quotient towards zero
abbrev pub quotient : ℤ → ℤ → Value
quotient a b = if is_zero b then Bad else fitting (int_div a b)

-- a less b times that exact quotient
abbrev pub remainder : ℤ → ℤ → Value
remainder a b = if is_zero b then Bad else fitting (a -ℤ (b *ℤ int_div a b))

-- a value from that of an operand
abbrev pub of_one : (ℤ → Value) → Value → Value
of_one f (Num a) = f a
of_one f Bad = Bad

-- a value from those of two operands
abbrev pub of_two : (ℤ → ℤ → Value) → Value → Value → Value
of_two f (Num a) (Num b) = f a b
of_two f _ _ = Bad

-- b where a isn't 0, else c; bad where one of the three is
abbrev pub picked : Value → Value → Value → Value
picked (Num a) (Num b) (Num c) = Num (if is_zero a then c else b)
picked _ _ _ = Bad

-- what an operation gives to its first name
abbrev pub first_value : MdfOp → Value → Value → Value → Value
first_value Copy a b c = a
first_value Neg a b c = of_one (λ n. fitting (neg_ℤ n)) a
first_value Add a b c = of_two (λ m n. fitting (m +ℤ n)) a b
first_value Sub a b c = of_two (λ m n. fitting (m -ℤ n)) a b
first_value Mul a b c = of_two (λ m n. fitting (m *ℤ n)) a b
first_value Div a b c = of_two quotient a b
first_value Rem a b c = of_two remainder a b
first_value Min a b c = of_two (λ m n. Num (int_min m n)) a b
first_value Max a b c = of_two (λ m n. Num (int_max m n)) a b
first_value Pick a b c = picked a b c
first_value DivMod a b c = of_two quotient a b

-- the value of an operand that may not be there
abbrev pub or_bad : Option Value → Value
or_bad None = Bad
or_bad (Some v) = v

-- what an operation gives
abbrev pub applied : MdfOp → Value → Option Value → Option Value → MdfAnswer
applied DivMod a b c = record { first = of_two quotient a (or_bad b); second = Some (of_two remainder a (or_bad b)) }
applied op a b c = record { first = first_value op a (or_bad b) (or_bad c); second = None }
