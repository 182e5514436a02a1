-- What is printed of a number is read as that number.
use Rattle.std.proofs.Common.{◌≡◌, ℕ, suc, ◌<◌, ◌≤◌, ◌^◌, true, List, [], ◌∷◌, length, Some, pos, negsuc, neg_ℤ, refl, ap, ◌∙◌, arith}
use Rattle.std.specs.Str.{all_ascii_digits}
use Rattle.std.specs.Str.Parse.{digits_value}
use Rattle.std.specs.Fmt.{decimal}
use Rattle.std.proofs.lemmas.Bool.{cond-true}
use Rattle.std.proofs.lemmas.Fmt.{decimal_nonempty, digits_decimal, digits_value-decimal}
use Rattle.std.proofs.lemmas.Int.{ints}
use Rattle.std.proofs.lemmas.Str.Parse.{tells_all_ascii_digits}
use Rattle.ff_rec.specs.Number.{number, positive, negative, PrintedIsRead}
use Rattle.ff_rec.proofs.Reading.{numeral_words, Decides-positive, Decides-negative, number-minus, number-plain}

-- digits have no sign
number-digits : (ds : List ℕ) → all_ascii_digits ds ≡ true → 0 < length ds → number ds ≡ positive ds
number-digits [] digits some = absurd (omega arith)
number-digits (c ∷ cs) digits some =
    let first = (tells_all_ascii_digits.parts c cs digits).0 in
    number-plain c cs (λ e. omega (arith, first)) (λ e. omega (arith, first))

-- a numeral that is small enough, by its value
positive-value : (ds : List ℕ) (n : ℕ) → all_ascii_digits ds ≡ true → 0 < length ds → digits_value 10 ds ≡ n → n < 2 ^ 63 → positive ds ≡ Some (pos n)
positive-value ds n digits some is small =
    cond-true _ _ _ ((Decides-positive ds).1 (digits, some, omega arith)) ∙ ap (λ v. Some (pos v)) is

negative-value : (ds : List ℕ) (n : ℕ) → all_ascii_digits ds ≡ true → 0 < length ds → digits_value 10 ds ≡ n → n ≤ 2 ^ 63 → negative ds ≡ Some (neg_ℤ (pos n))
negative-value ds n digits some is small =
    cond-true _ _ _ ((Decides-negative ds).1 (digits, some, omega arith)) ∙ ap (λ v. Some (neg_ℤ (pos v))) is

-- the digits of a number
number-decimal : (n : ℕ) → n < 2 ^ 63 → number (decimal n) ≡ Some (pos n)
number-decimal n small =
    let fits : n < 2 ^ 64 = omega arith in
    let digits = digits_decimal numeral_words n fits in
    number-digits (decimal n) digits (decimal_nonempty n fits)
    ∙ positive-value (decimal n) n digits (decimal_nonempty n fits) (digits_value-decimal numeral_words n fits) small

-- below zero
number-minus_decimal : (n : ℕ) → n < 2 ^ 63 → number (45 ∷ decimal (suc n)) ≡ Some (negsuc n)
number-minus_decimal n small =
    let fits : suc n < 2 ^ 64 = omega arith in
    number-minus 45 (decimal (suc n)) refl
    ∙ negative-value (decimal (suc n)) (suc n) (digits_decimal numeral_words (suc n) fits) (decimal_nonempty (suc n) fits) (digits_value-decimal numeral_words (suc n) fits) (omega arith)

pub number-printed : PrintedIsRead
number-printed (pos n) within = number-decimal n (omega (arith, ints, within.1))
number-printed (negsuc n) within = number-minus_decimal n (omega (arith, ints, within.0))
