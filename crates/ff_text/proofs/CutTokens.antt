-- What tokens of a text hold may be printed again, and so may a network that they spell.
use Rattle.std.proofs.Common.{◌≡◌, ◌+◌, ◌<◌, ◌≤◌, ◌^◌, ◌&&◌, Bool, true, false, cond, ℕ, zero, suc, IsTrue, List, [], ◌∷◌, take, Option, None, Some, ℤ, pos, refl, ap, subst, ◌∙◌, arith, one-add}
use Rattle.std.proofs.lemmas.Bool.{and_parts, leb-true, ltb-true}
use Rattle.std.proofs.lemmas.Int.{ints}
use Rattle.std.specs.Prelude.{nat_lt, nat_le, neg_ℤ, ◌==◌}
use Rattle.std.specs.List.{list_all, prefix_len}
use Rattle.std.specs.Str.Parse.{digits_value}
use Rattle.ff_rec.specs.Number.{IsNumber, is_numeral, number, positive, negative}
use Rattle.ff_rec.specs.Lines.{IsPlainByte, IsPlain}
use Rattle.ff_text.specs.Tokens.{Token, Word, Number, Sign, Quoted, Bad, Stop, HasPlainText}
use Rattle.ff_text.specs.Classes.{is_in_quotes}

-- a number of 64 bits, and a text that may stand in quotes
abbrev pub IsCut : Token → Type 0
IsCut (Word bytes) = Unit {0}
IsCut (Number None) = Unit {0}
IsCut (Number (Some n)) = IsNumber n
IsCut (Sign mark) = Unit {0}
IsCut (Quoted bytes) = IsTrue (list_all is_in_quotes bytes)
IsCut Bad = Unit {0}
IsCut Stop = Unit {0}

-- what is read of digits is within 64 bits
IsNumber-positive : (v : ℕ) (numeral small : Bool) (n : ℤ) → nat_lt v (2 ^ 63) ≡ small → cond (numeral && small) (Some (pos v)) None ≡ Some n → IsNumber n
IsNumber-positive v true true n is e =
    let below : v < 2 ^ 63 = ltb-true v (2 ^ 63) is in
    let within : IsNumber (pos v) = (omega (arith, ints), omega (arith, ints)) in
    let same : pos v ≡ n = cc in
    subst IsNumber same within
IsNumber-positive v true false n is e = absurd (cc)
IsNumber-positive v false small n is e = absurd (cc)

neg-within : (v : ℕ) → v ≤ 2 ^ 63 → IsNumber (neg_ℤ (pos v))
neg-within zero h = (omega (arith, ints), omega (arith, ints))
neg-within (suc v) h = (omega (arith, ints), omega (arith, ints))

IsNumber-negative : (v : ℕ) (numeral small : Bool) (n : ℤ) → nat_le v (2 ^ 63) ≡ small → cond (numeral && small) (Some (neg_ℤ (pos v))) None ≡ Some n → IsNumber n
IsNumber-negative v true true n is e =
    let same : neg_ℤ (pos v) ≡ n = cc in
    subst IsNumber same (neg-within v (leb-true v (2 ^ 63) is))
IsNumber-negative v true false n is e = absurd (cc)
IsNumber-negative v false small n is e = absurd (cc)

IsNumber-by_sign : (minus plus : Bool) (cs ds : List ℕ) (n : ℤ) → cond minus (negative cs) (cond plus (positive cs) (positive ds)) ≡ Some n → IsNumber n
IsNumber-by_sign true plus cs ds n e = IsNumber-negative (digits_value 10 cs) (is_numeral cs) (nat_le (digits_value 10 cs) (2 ^ 63)) n refl e
IsNumber-by_sign false true cs ds n e = IsNumber-positive (digits_value 10 cs) (is_numeral cs) (nat_lt (digits_value 10 cs) (2 ^ 63)) n refl e
IsNumber-by_sign false false cs ds n e = IsNumber-positive (digits_value 10 ds) (is_numeral ds) (nat_lt (digits_value 10 ds) (2 ^ 63)) n refl e

IsNumber-number : (bytes : List ℕ) (n : ℤ) → number bytes ≡ Some n → IsNumber n
IsNumber-number [] n e = absurd (cc)
IsNumber-number (c ∷ cs) n e = IsNumber-by_sign (c == 45) (c == 43) cs (c ∷ cs) n e

pub IsCut-number : (bytes : List ℕ) → IsCut (Number (number bytes))
IsCut-number bytes = by (number bytes) refl
  where
    by : (o : Option ℤ) → number bytes ≡ o → IsCut (Number o)
    by None e = tt
    by (Some n) e = IsNumber-number bytes n e

-- what goes up to a quote, a tab or a newline may stand in quotes
in_quotes-step : (b : ℕ) (bs : List ℕ) (n : ℕ) (test : Bool) → is_in_quotes b ≡ test → list_all is_in_quotes (take n bs) ≡ true → list_all is_in_quotes (take (cond test (1 + n) 0) (b ∷ bs)) ≡ true
in_quotes-step b bs n false e h = refl
in_quotes-step b bs n true e h =
    let both : (is_in_quotes b && list_all is_in_quotes (take n bs)) ≡ true = ap (λ t. t && list_all is_in_quotes (take n bs)) e ∙ h in rw one-add both

pub in_quotes-run : (bs : List ℕ) → list_all is_in_quotes (take (prefix_len is_in_quotes bs) bs) ≡ true
in_quotes-run [] = refl
in_quotes-run (b ∷ bs) = in_quotes-step b bs (prefix_len is_in_quotes bs) (is_in_quotes b) refl (in_quotes-run bs)

-- and may be a field
plain-byte : (b : ℕ) → is_in_quotes b ≡ true → IsPlainByte b
plain-byte b h =
    (λ e. let k : false ≡ true = subst (λ c. is_in_quotes c ≡ true) e h in cc, λ e. let k : false ≡ true = subst (λ c. is_in_quotes c ≡ true) e h in cc)

IsPlain-in_quotes : (bs : List ℕ) → list_all is_in_quotes bs ≡ true → IsPlain bs
IsPlain-in_quotes [] h = tt
IsPlain-in_quotes (b ∷ bs) h =
    let both = and_parts (is_in_quotes b) (list_all is_in_quotes bs) h in (plain-byte b both.0, IsPlain-in_quotes bs both.1)

pub HasPlainText-cut : (t : Token) → IsCut t → HasPlainText t
HasPlainText-cut (Word bytes) h = tt
HasPlainText-cut (Number n) h = tt
HasPlainText-cut (Sign m) h = tt
HasPlainText-cut (Quoted bytes) h = IsPlain-in_quotes bytes h
HasPlainText-cut Bad h = tt
HasPlainText-cut Stop h = tt
