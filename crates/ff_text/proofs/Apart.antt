-- Pieces that are apart are cut into their tokens.
use Rattle.std.proofs.Common.{◌≡◌, ℕ, suc, ◌<◌, ◌^◌, ◌||◌, not, Bool, true, false, IsTrue, if◌then◌else◌, List, [], ◌∷◌, ◌++◌, length, Some, None, ℤ, pos, negsuc, refl, ap, ◌∙◌, arith}
use Rattle.std.proofs.lemmas.Bool.{and_parts, ne_eqb}
use Rattle.std.proofs.lemmas.Fmt.{decimal_nonempty, digits_decimal}
use Rattle.std.proofs.lemmas.Int.{ints}
use Rattle.std.specs.Fmt.{decimal}
use Rattle.std.specs.List.{list_all}
use Rattle.std.specs.Char.{is_ascii_lowercase, is_ascii_digit}
use Rattle.std.specs.Str.{all_ascii_digits}
use Rattle.ff_rec.specs.Number.{printed, IsNumber, PrintedIsRead}
use Rattle.ff_text.specs.declared.text_mark.TextMark.{TextMark}
use Rattle.ff_text.specs.declared.text_mark.TextMark.TheVariants.{Open, Close, Comma, Less, AtMost, Equal, Unequal, AtLeast, Greater, Semicolon}
use Rattle.ff_text.specs.Tokens.{Token, Word, Number, Sign, Quoted, Bad, Stop}
use Rattle.ff_text.specs.Classes.{is_in_word}
use Rattle.ff_text.specs.Cutting.{is_next, spots}
use Rattle.ff_text.specs.Printing.{Piece, written, mark_bytes, printed_text, IsPrintable, is_word, is_equal, run_together, AreApart, tokens_of, pieces_of, PrintedIsCut}
use Rattle.ff_text.proofs.Runs.{is_front, lowercase-range, digit-range}
use Rattle.ff_text.proofs.Lexemes.{Ends, EndsMark, CutsOff, CutsOff-written, numeral_words}

-- no mark goes on with a word or a number
word-mark : (m : TextMark) (rest : List ℕ) → is_front is_in_word (mark_bytes m ++ rest) ≡ false
word-mark Open rest = refl
word-mark Close rest = refl
word-mark Comma rest = refl
word-mark Less rest = refl
word-mark AtMost rest = refl
word-mark Equal rest = refl
word-mark Unequal rest = refl
word-mark AtLeast rest = refl
word-mark Greater rest = refl
word-mark Semicolon rest = refl

digit-mark : (m : TextMark) (rest : List ℕ) → is_front is_ascii_digit (mark_bytes m ++ rest) ≡ false
digit-mark Open rest = refl
digit-mark Close rest = refl
digit-mark Comma rest = refl
digit-mark Less rest = refl
digit-mark AtMost rest = refl
digit-mark Equal rest = refl
digit-mark Unequal rest = refl
digit-mark AtLeast rest = refl
digit-mark Greater rest = refl
digit-mark Semicolon rest = refl

-- only `=` begins with `=`
equal-mark : (m : TextMark) (rest : List ℕ) → is_equal (Sign m) ≡ false → is_next 61 (mark_bytes m ++ rest) ≡ false
equal-mark Open rest other = refl
equal-mark Close rest other = refl
equal-mark Comma rest other = refl
equal-mark Less rest other = refl
equal-mark AtMost rest other = refl
equal-mark Equal rest other = absurd (cc)
equal-mark Unequal rest other = refl
equal-mark AtLeast rest other = refl
equal-mark Greater rest other = refl
equal-mark Semicolon rest other = refl

equal-word : (bytes rest : List ℕ) → is_word bytes ≡ true → is_next 61 (bytes ++ rest) ≡ false
equal-word [] rest fits = absurd (cc)
equal-word (b ∷ bs) rest fits =
    ne_eqb b 61 (λ e. omega (arith, (lowercase-range b (and_parts (is_ascii_lowercase b) (list_all is_in_word bs) fits).0).0))

equal-digits : (ds rest : List ℕ) → all_ascii_digits ds ≡ true → 0 < length ds → is_next 61 (ds ++ rest) ≡ false
equal-digits [] rest all some = absurd (omega arith)
equal-digits (d ∷ ds) rest all some =
    ne_eqb d 61 (λ e. omega (arith, (digit-range d (and_parts (is_ascii_digit d) (all_ascii_digits ds) all).0).1))

equal-number : (z : ℤ) (rest : List ℕ) → IsNumber z → is_next 61 (printed z ++ rest) ≡ false
equal-number (pos n) rest fits =
    let small : n < 2 ^ 64 = omega (arith, ints, fits.1) in
    equal-digits (decimal n) rest (digits_decimal numeral_words n small) (decimal_nonempty n small)
equal-number (negsuc n) rest fits = refl

Ends-angle : (u : Token) (rest : List ℕ) → IsPrintable u → is_equal u ≡ false → is_next 61 (written u ++ rest) ≡ false
Ends-angle (Word bytes) rest fits other = equal-word bytes rest fits
Ends-angle (Number None) rest fits other = absurd fits
Ends-angle (Number (Some z)) rest fits other = equal-number z rest fits
Ends-angle (Sign m) rest fits other = equal-mark m rest other
Ends-angle (Quoted bytes) rest fits other = refl
Ends-angle Bad rest fits other = absurd fits
Ends-angle Stop rest fits other = absurd fits

Ends-word : (w : List ℕ) (u : Token) (rest : List ℕ) → IsPrintable u → run_together (Word w) u ≡ false → is_front is_in_word (written u ++ rest) ≡ false
Ends-word w (Word bytes) rest fits apart = absurd (cc)
Ends-word w (Number n) rest fits apart = absurd (cc)
Ends-word w (Sign m) rest fits apart = word-mark m rest
Ends-word w (Quoted bytes) rest fits apart = refl
Ends-word w Bad rest fits apart = absurd fits
Ends-word w Stop rest fits apart = absurd fits

Ends-digits : (u : Token) (rest : List ℕ) → IsPrintable u → run_together (Number None) u ≡ false → is_front is_ascii_digit (written u ++ rest) ≡ false
Ends-digits (Word bytes) rest fits apart = absurd (cc)
Ends-digits (Number n) rest fits apart = absurd (cc)
Ends-digits (Sign m) rest fits apart = digit-mark m rest
Ends-digits (Quoted bytes) rest fits apart = refl
Ends-digits Bad rest fits apart = absurd fits
Ends-digits Stop rest fits apart = absurd fits

Ends-sign : (m : TextMark) (u : Token) (rest : List ℕ) → IsPrintable u → run_together (Sign m) u ≡ false → EndsMark m (written u ++ rest)
Ends-sign Open u rest fits apart = tt
Ends-sign Close u rest fits apart = tt
Ends-sign Comma u rest fits apart = tt
Ends-sign Less u rest fits apart = Ends-angle u rest fits apart
Ends-sign AtMost u rest fits apart = tt
Ends-sign Equal u rest fits apart = tt
Ends-sign Unequal u rest fits apart = tt
Ends-sign AtLeast u rest fits apart = tt
Ends-sign Greater u rest fits apart = Ends-angle u rest fits apart
Ends-sign Semicolon u rest fits apart = tt

Ends-written : (t u : Token) (rest : List ℕ) → IsPrintable u → run_together t u ≡ false → Ends t (written u ++ rest)
Ends-written (Word w) u rest fits apart = Ends-word w u rest fits apart
Ends-written (Number n) u rest fits apart = Ends-digits u rest fits apart
Ends-written (Sign m) u rest fits apart = Ends-sign m u rest fits apart
Ends-written (Quoted bytes) u rest fits apart = tt
Ends-written Bad u rest fits apart = tt
Ends-written Stop u rest fits apart = tt

-- a blank ends every token, and so does the end of the text
Ends-blank : (t : Token) (rest : List ℕ) → Ends t (32 ∷ rest)
Ends-blank (Word w) rest = refl
Ends-blank (Number n) rest = refl
Ends-blank (Sign Open) rest = tt
Ends-blank (Sign Close) rest = tt
Ends-blank (Sign Comma) rest = tt
Ends-blank (Sign Less) rest = refl
Ends-blank (Sign AtMost) rest = tt
Ends-blank (Sign Equal) rest = tt
Ends-blank (Sign Unequal) rest = tt
Ends-blank (Sign AtLeast) rest = tt
Ends-blank (Sign Greater) rest = refl
Ends-blank (Sign Semicolon) rest = tt
Ends-blank (Quoted bytes) rest = tt
Ends-blank Bad rest = tt
Ends-blank Stop rest = tt

Ends-nothing : (t : Token) → Ends t []
Ends-nothing (Word w) = refl
Ends-nothing (Number n) = refl
Ends-nothing (Sign Open) = tt
Ends-nothing (Sign Close) = tt
Ends-nothing (Sign Comma) = tt
Ends-nothing (Sign Less) = refl
Ends-nothing (Sign AtMost) = tt
Ends-nothing (Sign Equal) = tt
Ends-nothing (Sign Unequal) = tt
Ends-nothing (Sign AtLeast) = tt
Ends-nothing (Sign Greater) = refl
Ends-nothing (Sign Semicolon) = tt
Ends-nothing (Quoted bytes) = tt
Ends-nothing Bad = tt
Ends-nothing Stop = tt

not_true : (b : Bool) → not b ≡ true → b ≡ false
not_true true e = absurd (cc)
not_true false e = refl

-- the next piece ends a token
Ends-piece : (t u : Token) (blank : Bool) (rest : List ℕ) → IsPrintable u → IsTrue (blank || not (run_together t u)) → Ends t ((if blank then 32 ∷ [] else []) ++ (written u ++ rest))
Ends-piece t u true rest fits apart = Ends-blank t (written u ++ rest)
Ends-piece t u false rest fits apart = Ends-written t u rest fits (not_true (run_together t u) apart)

-- a blank before a piece is left out
spots-blank : (blank : Bool) (at : ℕ) (rest : List ℕ) → (n : ℕ) × (spots 0 at ((if blank then 32 ∷ [] else []) ++ rest) ≡ spots 0 n rest)
spots-blank true at rest = (suc at, refl)
spots-blank false at rest = (at, refl)

-- one piece
cut-piece : PrintedIsRead → (p : Piece) (rest : List ℕ) (at : ℕ) → IsPrintable p.token → Ends p.token rest → CutsOff p.token at ((if p.blank then 32 ∷ [] else []) ++ (written p.token ++ rest)) rest
cut-piece read p rest at fits ends =
    let start = spots-blank p.blank at (written p.token ++ rest) in
    let cut = CutsOff-written read p.token rest start.0 fits ends in
    (cut.0, ap tokens_of start.1 ∙ cut.1)

-- the first piece is apart from the others, which are apart
first_printable : (p : Piece) (ps : List Piece) → AreApart (p ∷ ps) → IsPrintable p.token
first_printable p [] apart = apart
first_printable p (q ∷ ps) apart = apart.0

cut-pieces : PrintedIsRead → (ps : List Piece) (at : ℕ) → AreApart ps → tokens_of (spots 0 at (printed_text ps)) ≡ pieces_of ps ++ Stop ∷ []
cut-pieces read [] at apart = refl
cut-pieces read (p ∷ []) at apart =
    let cut = cut-piece read p [] at apart (Ends-nothing p.token) in
    cut.1
cut-pieces read (p ∷ q ∷ ps) at apart =
    let ends = Ends-piece p.token q.token q.blank (printed_text ps) (first_printable q ps apart.2) apart.1 in
    let cut = cut-piece read p (printed_text (q ∷ ps)) at apart.0 ends in
    cut.1 ∙ ap (λ ts. p.token ∷ ts) (cut-pieces read (q ∷ ps) cut.0 apart.2)

pub printed_is_cut : PrintedIsRead → PrintedIsCut
printed_is_cut read ps apart = cut-pieces read ps 0 apart
