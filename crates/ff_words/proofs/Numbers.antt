-- How a plain number is read.
use Rattle.std.proofs.Common.{◌≡◌, ◌<◌, ◌≤◌, ◌-◌, ◌^◌, ◌&&◌, ◌==◌, Bool, true, false, List, [], ◌∷◌, ℕ, ℤ, pos, None, Some, refl, sym, ◌∙◌, length, nat_lt, nat_le, arith, slice_index_or}
use Rattle.std.proofs.Common.{w64, to_z, of_z}
use Rattle.std.proofs.lemmas.Int.{to_z_pos}
use lib.IntN.{nat_abs}
use Rattle.std.specs.Char.{is_ascii_digit}
use Rattle.std.specs.Str.Parse.{digits_value}
use Rattle.ff_rec.specs.Number.{number, positive, is_numeral, numeral}
use Rattle.ff_words.specs.Numbers.{number_in, within, plain_number}

-- a value that is read, and that a text has
abbrev pub IsRead : List ℕ → ℤ → Type 0
IsRead text n = (v : ℕ) × (n ≡ pos v) × (v < 2 ^ 63) × (number_in 0 (2 ^ 63 - 1) text ≡ Some v)

below : (v m : ℕ) → nat_lt v m ≡ true → v < m
below v m h = grind arith

number-digit : (c : ℕ) (cs : List ℕ) → is_ascii_digit c ≡ true → number (c ∷ cs) ≡ positive (c ∷ cs)
number-digit c cs digit =
    let plus : (c == 43) ≡ false = grind arith in
    let minus : (c == 45) ≡ false = grind arith in
    rw (minus, plus) refl

plain_number-alone : (c : ℕ) (cs : List ℕ) → (c ≡ 48 → length (c ∷ cs) ≡ 1) → plain_number (c ∷ cs) ≡ numeral (c ∷ cs)
plain_number-alone c cs alone =
    let zero_alone : (c == 48 && nat_lt 0 (length cs)) ≡ false = grind arith in
    rw zero_alone refl

within-below : (v : ℕ) → v < 2 ^ 63 → within 0 (2 ^ 63 - 1) v ≡ Some v
within-below v low =
    let least : nat_le 0 v ≡ true = grind arith in
    let most : nat_le v (2 ^ 63 - 1) ≡ true = grind arith in
    rw (least, most) refl

pub read_is : (text : List ℕ) (n : ℤ) → 1 ≤ length text → is_ascii_digit (slice_index_or text 0 0) ≡ true
    → (slice_index_or text 0 0 ≡ 48 → length text ≡ 1) → number text ≡ Some n → IsRead text n
read_is [] n long digit alone found = absurd (omega arith)
read_is (c ∷ cs) n long digit alone found =
    go (is_numeral (c ∷ cs)) refl (nat_lt (digits_value 10 (c ∷ cs)) (2 ^ 63)) refl (sym (number-digit c cs digit) ∙ found)
  where
    go : (b : Bool) → is_numeral (c ∷ cs) ≡ b → (s : Bool) → nat_lt (digits_value 10 (c ∷ cs)) (2 ^ 63) ≡ s
        → positive (c ∷ cs) ≡ Some n → IsRead (c ∷ cs) n
    go true e true f same =
        let value : Some (pos (digits_value 10 (c ∷ cs))) ≡ Some n = rw (e, f) at same in
        let low = below (digits_value 10 (c ∷ cs)) (2 ^ 63) f in
        (digits_value 10 (c ∷ cs), cc, low, rw (plain_number-alone c cs alone, e) (within-below (digits_value 10 (c ∷ cs)) low))
    go true e false f same =
        let value : None ≡ Some n = rw (e, f) at same in
        absurd cc
    go false e s f same =
        let value : None ≡ Some n = rw e at same in
        absurd cc

-- such a value is kept by the cast
pub cast_read : (text : List ℕ) (n : ℤ) → IsRead text n → Some (nat_abs (to_z w64 (of_z w64 n))) ≡ number_in 0 (2 ^ 63 - 1) text
cast_read text n read =
    let back : to_z w64 (of_z w64 (pos read.0)) ≡ pos read.0 = to_z_pos w64 read.0 read.2 in
    rw (read.1, back) (sym read.3)
