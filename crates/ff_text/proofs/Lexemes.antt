-- A token that is printed stands at the front of what is printed.
use Rattle.std.proofs.Common.{◌≡◌, ℕ, suc, ◌+◌, ◌<◌, ◌^◌, ◌==◌, true, false, List, [], ◌∷◌, ◌++◌, length, Some, None, ℤ, pos, negsuc, refl, ap, ◌∙◌, arith, append_assoc, length-append}
use Rattle.std.proofs.lemmas.Bool.{cond-true, cond-false, and_parts, ne_eqb, false_from_ne_true}
use Rattle.std.proofs.lemmas.Fmt.{decimal_nonempty, digits_decimal}
use Rattle.std.proofs.lemmas.Int.{ints}
use Rattle.std.proofs.lemmas.Str.Parse.{IsNumeralModel, numerals_by_value, tells_all_ascii_digits}
use Rattle.std.proofs.Math.Seq.{drop-append_seam, take-append_seam}
use Rattle.std.specs.Fmt.{decimal}
use Rattle.std.specs.List.{prefix_len, list_all}
use Rattle.std.specs.Char.{is_ascii_lowercase, is_ascii_digit}
use Rattle.std.specs.Str.{all_ascii_digits}
use Rattle.std.specs.Str.Parse.{digits_value}
use Rattle.ff_rec.specs.Number.{number, printed, IsNumber, PrintedIsRead}
use Rattle.ff_text.specs.declared.text_mark.TextMark.{TextMark}
use Rattle.ff_text.specs.declared.text_mark.TextMark.TheVariants.{Open, Close, Comma, Less, AtMost, Equal, Unequal, AtLeast, Greater, Semicolon}
use Rattle.ff_text.specs.Tokens.{Token, Word, Number, Sign, Quoted, Bad, Stop}
use Rattle.ff_text.specs.Classes.{is_blank, is_in_word, is_in_quotes}
use Rattle.ff_text.specs.Cutting.{lexeme, piece, word, digits, quoted, is_next, put, spots}
use Rattle.ff_text.specs.Printing.{written, mark_bytes, IsPrintable, tokens_of}
use Rattle.ff_text.proofs.Ahead.{skipped}
use Rattle.ff_text.proofs.Runs.{is_front, prefix_len-run, lowercase-range, digit-range, is_blank-above, list_all-digits}

-- bytes that don't go on with a mark, and with a token
abbrev pub EndsMark : TextMark → List ℕ → Type 0
EndsMark Less rest = is_next 61 rest ≡ false
EndsMark Greater rest = is_next 61 rest ≡ false
EndsMark _ rest = Unit {0}

abbrev pub Ends : Token → List ℕ → Type 0
Ends (Word bytes) rest = is_front is_in_word rest ≡ false
Ends (Number n) rest = is_front is_ascii_digit rest ≡ false
Ends (Sign mark) rest = EndsMark mark rest
Ends _ rest = Unit {0}

-- the token at the front is `t`, and the cutting goes on behind it
abbrev pub CutsOff : Token → ℕ → List ℕ → List ℕ → Type 0
CutsOff t at text rest = (n : ℕ) × (tokens_of (spots 0 at text) ≡ t ∷ tokens_of (spots 0 n rest))

CutsOff-piece : (t : Token) (b : ℕ) (bs rest : List ℕ) (at : ℕ) → lexeme b (bs ++ rest) ≡ piece t (length bs) → CutsOff t at (b ∷ bs ++ rest) rest
CutsOff-piece t b bs rest at is = (
  length bs + suc at,
  ap (λ l. tokens_of (put l.token at (spots l.more (suc at) (bs ++ rest)))) is
      ∙ ap (λ ss. t ∷ tokens_of ss) (skipped (length bs) (suc at) (bs ++ rest) (omega (arith, length-append bs rest)) ∙ ap (spots 0 (length bs + suc at)) (drop-append_seam bs rest)),
)

-- words
lexeme-lowercase : (b : ℕ) (bs : List ℕ) → is_ascii_lowercase b ≡ true → lexeme b bs ≡ word b bs
lexeme-lowercase b bs low =
    let range = lowercase-range b low in
    cond-false (is_blank b) _ _ (is_blank-above b (omega (arith, range.0))) ∙ cond-false (b == 35) _ _ (ne_eqb b 35 (λ e. omega (arith, range.0))) ∙ cond-true (is_ascii_lowercase b) _ _ low

lexeme-word : (b : ℕ) (bs rest : List ℕ) → is_ascii_lowercase b ≡ true → list_all is_in_word bs ≡ true → is_front is_in_word rest ≡ false → lexeme b (bs ++ rest) ≡ piece (Word (b ∷ bs)) (length bs)
lexeme-word b bs rest low all ends =
    lexeme-lowercase b (bs ++ rest) low ∙ rw (prefix_len-run is_in_word bs rest all ends, take-append_seam bs rest) refl

CutsOff-word : (bytes rest : List ℕ) (at : ℕ) → IsPrintable (Word bytes) → Ends (Word bytes) rest → CutsOff (Word bytes) at (bytes ++ rest) rest
CutsOff-word [] rest at fits ends = absurd (cc)
CutsOff-word (b ∷ bs) rest at fits ends =
    let both = and_parts (is_ascii_lowercase b) (list_all is_in_word bs) fits in
    CutsOff-piece (Word (b ∷ bs)) b bs rest at (lexeme-word b bs rest both.0 both.1 ends)

-- numbers
lexeme-digit : (b : ℕ) (bs : List ℕ) → is_ascii_digit b ≡ true → lexeme b bs ≡ digits b bs
lexeme-digit b bs digit =
    let range = digit-range b digit in
    cond-false (is_blank b) _ _ (is_blank-above b (omega (arith, range.0)))
    ∙ cond-false (b == 35) _ _ (ne_eqb b 35 (λ e. omega (arith, range.0)))
    ∙ cond-false (is_ascii_lowercase b) _ _ (false_from_ne_true _ (λ low. omega (arith, range.1, (lowercase-range b low).0)))
    ∙ cond-true (is_ascii_digit b) _ _ digit

digits-run : (b : ℕ) (bs rest : List ℕ) (z : ℤ) → list_all is_ascii_digit bs ≡ true → is_front is_ascii_digit rest ≡ false → number (b ∷ bs) ≡ Some z → digits b (bs ++ rest) ≡ piece (Number (Some z)) (length bs)
digits-run b bs rest z all ends value =
    rw (prefix_len-run is_ascii_digit bs rest all ends, take-append_seam bs rest, value) refl

CutsOff-digits : (ds rest : List ℕ) (z : ℤ) (at : ℕ) → list_all is_ascii_digit ds ≡ true → 0 < length ds → number ds ≡ Some z → is_front is_ascii_digit rest ≡ false → CutsOff (Number (Some z)) at (ds ++ rest) rest
CutsOff-digits [] rest z at all some value ends = absurd (omega arith)
CutsOff-digits (d ∷ ds) rest z at all some value ends =
    let both = and_parts (is_ascii_digit d) (list_all is_ascii_digit ds) all in
    CutsOff-piece (Number (Some z)) d ds rest at (lexeme-digit d (ds ++ rest) both.0 ∙ digits-run d ds rest z both.1 ends value)

CutsOff-minus : (ds rest : List ℕ) (z : ℤ) (at : ℕ) → list_all is_ascii_digit ds ≡ true → 0 < length ds → number (45 ∷ ds) ≡ Some z → is_front is_ascii_digit rest ≡ false → CutsOff (Number (Some z)) at (45 ∷ ds ++ rest) rest
CutsOff-minus ds rest z at all some value ends =
    let run = prefix_len-run is_ascii_digit ds rest all ends in
    CutsOff-piece (Number (Some z)) 45 ds rest at
    (cond-false (prefix_len is_ascii_digit (ds ++ rest) == 0) (piece Bad 0) (digits 45 (ds ++ rest)) (ne_eqb _ 0 (λ e. omega (arith, run))) ∙ digits-run 45 ds rest z all ends value)

pub numeral_words : IsNumeralModel (λ ds. all_ascii_digits ds ≡ true) (digits_value 10)
numeral_words = numerals_by_value (λ ds. all_ascii_digits ds ≡ true) tells_all_ascii_digits

CutsOff-number : PrintedIsRead → (z : ℤ) (rest : List ℕ) (at : ℕ) → IsNumber z → Ends (Number (Some z)) rest → CutsOff (Number (Some z)) at (printed z ++ rest) rest
CutsOff-number read (pos n) rest at fits ends =
    let small : n < 2 ^ 64 = omega (arith, ints, fits.1) in
    CutsOff-digits (decimal n) rest (pos n) at (list_all-digits (decimal n) (digits_decimal numeral_words n small)) (decimal_nonempty n small) (read (pos n) fits) ends
CutsOff-number read (negsuc n) rest at fits ends =
    let small : suc n < 2 ^ 64 = omega (arith, ints, fits.0) in
    CutsOff-minus (decimal (suc n)) rest (negsuc n) at (list_all-digits (decimal (suc n)) (digits_decimal numeral_words (suc n) small)) (decimal_nonempty (suc n) small) (read (negsuc n) fits) ends

-- quoted texts
quoted-run : (bs rest : List ℕ) → list_all is_in_quotes bs ≡ true → quoted (bs ++ 34 ∷ rest) ≡ piece (Quoted bs) (suc (length bs))
quoted-run bs rest all =
    rw (prefix_len-run is_in_quotes bs (34 ∷ rest) all refl, drop-append_seam bs (34 ∷ rest), take-append_seam bs (34 ∷ rest)) refl

CutsOff-quoted : (bs rest : List ℕ) (at : ℕ) → IsPrintable (Quoted bs) → CutsOff (Quoted bs) at (34 ∷ bs ++ 34 ∷ [] ++ rest) rest
CutsOff-quoted bs rest at all =
    CutsOff-piece (Quoted bs) 34 (bs ++ 34 ∷ []) rest at
    (ap quoted (append_assoc bs (34 ∷ []) rest) ∙ quoted-run bs rest all ∙ ap (piece (Quoted bs)) (omega (arith, length-append bs (34 ∷ []))))

-- marks
CutsOff-mark : (m : TextMark) (rest : List ℕ) (at : ℕ) → EndsMark m rest → CutsOff (Sign m) at (mark_bytes m ++ rest) rest
CutsOff-mark Open rest at ends = CutsOff-piece (Sign Open) 40 [] rest at refl
CutsOff-mark Close rest at ends = CutsOff-piece (Sign Close) 41 [] rest at refl
CutsOff-mark Comma rest at ends = CutsOff-piece (Sign Comma) 44 [] rest at refl
CutsOff-mark Less rest at ends = CutsOff-piece (Sign Less) 60 [] rest at (cond-false (is_next 61 rest) _ _ ends)
CutsOff-mark AtMost rest at ends = CutsOff-piece (Sign AtMost) 60 (61 ∷ []) rest at refl
CutsOff-mark Equal rest at ends = CutsOff-piece (Sign Equal) 61 [] rest at refl
CutsOff-mark Unequal rest at ends = CutsOff-piece (Sign Unequal) 33 (61 ∷ []) rest at refl
CutsOff-mark AtLeast rest at ends = CutsOff-piece (Sign AtLeast) 62 (61 ∷ []) rest at refl
CutsOff-mark Greater rest at ends = CutsOff-piece (Sign Greater) 62 [] rest at (cond-false (is_next 61 rest) _ _ ends)
CutsOff-mark Semicolon rest at ends = CutsOff-piece (Sign Semicolon) 59 [] rest at refl

-- any token
pub CutsOff-written : PrintedIsRead → (t : Token) (rest : List ℕ) (at : ℕ) → IsPrintable t → Ends t rest → CutsOff t at (written t ++ rest) rest
CutsOff-written read (Word bytes) rest at fits ends = CutsOff-word bytes rest at fits ends
CutsOff-written read (Number None) rest at fits ends = absurd fits
CutsOff-written read (Number (Some z)) rest at fits ends = CutsOff-number read z rest at fits ends
CutsOff-written read (Sign m) rest at fits ends = CutsOff-mark m rest at ends
CutsOff-written read (Quoted bs) rest at fits ends = CutsOff-quoted bs rest at fits
CutsOff-written read Bad rest at fits ends = absurd fits
CutsOff-written read Stop rest at fits ends = absurd fits
