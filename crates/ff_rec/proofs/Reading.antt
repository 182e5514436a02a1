-- std's `parse` and `from_utf8` read just the bytes that are a number.
use Rattle.std.proofs.Common.{◌≡◌, ◌≢◌, ℕ, suc, zero, ◌<◌, ◌≤◌, ◌^◌, ◌==◌, ◌&&◌, nat_lt, nat_le, Bool, true, false, cond, List, [], ◌∷◌, length, None, Some, Result, Ok, Err, OkIff, Decides, ℤ, IsUtf8, IsAscii, refl, sym, subst, ◌∙◌, inl, inr, arith, w64}
use Rattle.std.specs.Result.{result_ok, MatchResult}
use Rattle.std.specs.Str.{all_ascii_digits}
use Rattle.std.specs.Str.Parse.{digits_value, ParsesSigned}
use Rattle.std.proofs.lemmas.Bool.{cases_Bool, cases_eq, ne_eqb, eq-eqb, cond-true, cond-false, and_parts, and_from, and_left, leb-true, le-leb, ltb-true, lt-ltb}
use Rattle.std.proofs.lemmas.Str.{IsUtf8-from_ascii}
use Rattle.std.proofs.lemmas.Str.Parse.{IsNumeralModel, numerals_by_value, tells_all_ascii_digits, parse_signed_plain, parse_signed_plus, parse_signed_minus}
use Rattle.std.proofs.lemmas.Fmt.{IsAscii-from_digits}
use Rattle.ff_rec.specs.Number.{number, positive, negative, is_numeral}

-- the words of `number` are std's words
pub numeral_words : IsNumeralModel (λ ds. all_ascii_digits ds ≡ true) (digits_value 10)
numeral_words = numerals_by_value (λ ds. all_ascii_digits ds ≡ true) tells_all_ascii_digits

-- what `is_numeral` tells
is_numeral-parts : (ds : List ℕ) → is_numeral ds ≡ true → (all_ascii_digits ds ≡ true) × (0 < length ds)
is_numeral-parts [] e = (refl, absurd (cc))
is_numeral-parts (c ∷ cs) e = (e, omega arith)

is_numeral-from : (ds : List ℕ) → all_ascii_digits ds ≡ true → 0 < length ds → is_numeral ds ≡ true
is_numeral-from [] e some = absurd (omega arith)
is_numeral-from (c ∷ cs) e some = e

-- what is `Ok` just where a test passes
result_ok-OkIff : {E Q : Type 0} (r : Result ℤ E) (z : ℤ) (b : Bool) → Decides b Q → OkIff r Q z → result_ok r ≡ cond b (Some z) None
result_ok-OkIff (Ok x) z b d h = rw (d.1 h.0, h.1) refl
result_ok-OkIff (Err e) z true d h = absurd (h (d.0 refl))
result_ok-OkIff (Err e) z false d h = refl

-- the tests of `positive` and `negative` decide what `parse` asks
pub Decides-positive : (ds : List ℕ) → Decides (is_numeral ds && nat_lt (digits_value 10 ds) (2 ^ 63)) ((all_ascii_digits ds ≡ true) × (0 < length ds) × (digits_value 10 ds < 2 ^ 63))
Decides-positive ds = (
  λ e. let both = and_parts (is_numeral ds) _ e in let digits = is_numeral-parts ds both.0 in (digits.0, digits.1, ltb-true _ _ both.1),
  λ h. and_from (is_numeral ds) _ (is_numeral-from ds h.0 h.1) (lt-ltb _ _ h.2),
)

pub Decides-negative : (ds : List ℕ) → Decides (is_numeral ds && nat_le (digits_value 10 ds) (2 ^ 63)) ((all_ascii_digits ds ≡ true) × (0 < length ds) × (digits_value 10 ds ≤ 2 ^ 63))
Decides-negative ds = (
  λ e. let both = and_parts (is_numeral ds) _ e in let digits = is_numeral-parts ds both.0 in (digits.0, digits.1, leb-true _ _ both.1),
  λ h. and_from (is_numeral ds) _ (is_numeral-from ds h.0 h.1) (le-leb _ _ h.2),
)

-- `number` by the first byte
pub number-minus : (c : ℕ) (cs : List ℕ) → c ≡ 45 → number (c ∷ cs) ≡ negative cs
number-minus c cs e = cond-true (c == 45) _ _ (eq-eqb c 45 e)

number-plus : (c : ℕ) (cs : List ℕ) → c ≡ 43 → number (c ∷ cs) ≡ positive cs
number-plus c cs e = cond-false (c == 45) _ _ (ne_eqb c 45 (λ minus. omega arith)) ∙ cond-true (c == 43) _ _ (eq-eqb c 43 e)

pub number-plain : (c : ℕ) (cs : List ℕ) → c ≢ 45 → c ≢ 43 → number (c ∷ cs) ≡ positive (c ∷ cs)
number-plain c cs minus plus = cond-false (c == 45) _ _ (ne_eqb c 45 minus) ∙ cond-false (c == 43) _ _ (ne_eqb c 43 plus)

-- what `parse` gives is the number that the bytes are
pub result_ok-parse : {E : Type 0} (bytes : List ℕ) (r : Result ℤ E) → ParsesSigned w64 10 bytes r → result_ok r ≡ number bytes
result_ok-parse [] r h =
    result_ok-OkIff r _ _ (Decides-positive []) (parse_signed_plain numeral_words w64 [] r h (λ e. omega arith) (λ e. omega arith))
result_ok-parse (c ∷ cs) r h = elim (cases_eq c 45) [
  | inl minus ↦ result_ok-OkIff r _ _ (Decides-negative cs) (parse_signed_minus numeral_words w64 (c ∷ cs) r h minus) ∙ sym (number-minus c cs minus)
  | inr not_minus ↦ elim (cases_eq c 43) [
    | inl plus ↦ result_ok-OkIff r _ _ (Decides-positive cs) (parse_signed_plus numeral_words w64 (c ∷ cs) r h plus) ∙ sym (number-plus c cs plus)
    | inr not_plus ↦ result_ok-OkIff r _ _ (Decides-positive (c ∷ cs)) (parse_signed_plain numeral_words w64 (c ∷ cs) r h not_plus not_minus) ∙ sym (number-plain c cs not_minus not_plus)
  ]
]

-- a numeral is ASCII, and so is one behind a sign
IsAscii-numeral : (ds : List ℕ) → is_numeral ds ≡ true → IsAscii ds
IsAscii-numeral ds e = IsAscii-from_digits ds (numeral_words.to ds (is_numeral-parts ds e).0)

IsAscii-cons : (c : ℕ) (cs : List ℕ) → c < 128 → IsAscii cs → IsAscii (c ∷ cs)
IsAscii-cons c cs low ascii zero = low
IsAscii-cons c cs low ascii (suc i) = ascii i

-- where the bytes aren't a numeral there is no number
positive-none : (ds : List ℕ) → is_numeral ds ≡ false → positive ds ≡ None
positive-none ds e = cond-false _ _ _ (and_left (is_numeral ds) _ e)

negative-none : (ds : List ℕ) → is_numeral ds ≡ false → negative ds ≡ None
negative-none ds e = cond-false _ _ _ (and_left (is_numeral ds) _ e)

-- bytes that aren't UTF-8 are no number
pub number-not_utf8 : (bytes : List ℕ) → ¬ (IsUtf8 bytes) → number bytes ≡ None
number-not_utf8 [] not = refl
number-not_utf8 (c ∷ cs) not = elim (cases_eq c 45) [
  | inl minus ↦ number-minus c cs minus ∙ elim (cases_Bool (is_numeral cs)) [
    | inl e ↦ absurd (not (IsUtf8-from_ascii (c ∷ cs) (IsAscii-cons c cs (omega arith) (IsAscii-numeral cs e))))
    | inr e ↦ negative-none cs e
  ]
  | inr not_minus ↦ elim (cases_eq c 43) [
    | inl plus ↦ number-plus c cs plus ∙ elim (cases_Bool (is_numeral cs)) [
      | inl e ↦ absurd (not (IsUtf8-from_ascii (c ∷ cs) (IsAscii-cons c cs (omega arith) (IsAscii-numeral cs e))))
      | inr e ↦ positive-none cs e
    ]
    | inr not_plus ↦ number-plain c cs not_minus not_plus ∙ elim (cases_Bool (is_numeral (c ∷ cs))) [
      | inl e ↦ absurd (not (IsUtf8-from_ascii (c ∷ cs) (IsAscii-numeral (c ∷ cs) e)))
      | inr e ↦ positive-none (c ∷ cs) e
    ]
  ]
]

-- what a call's clause says where `ok` gave `Some`, and where it gave `None`
pub MatchResult-some : {T E : Type 0} (P : T → Type 0) (Q : E → Type 0) (r : Result T E) (x : T) → MatchResult r P Q → result_ok r ≡ Some x → P x
MatchResult-some P Q (Ok y) x h is = let e : y ≡ x = cc in subst P e h
MatchResult-some P Q (Err y) x h is = absurd (cc)

pub MatchResult-none : {T E : Type 0} (P : T → Type 0) (Q : E → Type 0) (U : Type 0) (r : Result T E) → MatchResult r P Q → ((e : E) → Q e → U) → result_ok r ≡ None → U
MatchResult-none P Q U (Ok y) h then_u is = absurd (cc)
MatchResult-none P Q U (Err y) h then_u is = then_u y h
