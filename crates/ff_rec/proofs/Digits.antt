-- The text of a number is plain: digits and `-` are neither tab nor newline.
use Rattle.std.proofs.Common.{ℕ, suc, zero, ◌+◌, ◌/◌, ◌%◌, ◌==◌, nat_lt, false, List, [], ◌∷◌, ℤ, pos, negsuc, arith}
use Rattle.std.proofs.lemmas.Bool.{cond_both}
use Rattle.std.specs.Fmt.{digits, digits_onto, digit_glyph, decimal}
use Rattle.ff_rec.specs.Lines.{IsPlainByte, IsPlain}
use Rattle.ff_rec.specs.Number.{printed}

-- a digit is a plain byte
IsPlainByte-glyph : (d : ℕ) → IsPlainByte (digit_glyph false d)
IsPlainByte-glyph d =
    cond_both (nat_lt d 10) (48 + d) (87 + d) IsPlainByte (λ _. (λ e. omega arith, λ e. omega arith)) (λ _. (λ e. omega arith, λ e. omega arith))

-- digits in front of plain bytes
IsPlain-digits_onto : (k n : ℕ) (acc : List ℕ) → IsPlain acc → IsPlain (digits_onto k 10 false n acc)
IsPlain-digits_onto zero n acc plain = plain
IsPlain-digits_onto (suc k) n acc plain =
    let glyph = digit_glyph false (n % 10) in
    let more : IsPlain (glyph ∷ acc) = (IsPlainByte-glyph (n % 10), plain) in
    cond_both (n / 10 == 0) (glyph ∷ acc) (digits_onto k 10 false (n / 10) (glyph ∷ acc)) IsPlain (λ _. more) (λ _. IsPlain-digits_onto k (n / 10) (glyph ∷ acc) more)

-- the digits of a number from 0 on
pub IsPlain-decimal : (n : ℕ) → IsPlain (decimal n)
unfolding digits
IsPlain-decimal n = IsPlain-digits_onto 64 n [] tt

-- a number as it is printed
pub IsPlain-printed : (n : ℤ) → IsPlain (printed n)
IsPlain-printed (pos n) = IsPlain-decimal n
IsPlain-printed (negsuc n) = ((λ e. omega arith, λ e. omega arith), IsPlain-decimal (suc n))
