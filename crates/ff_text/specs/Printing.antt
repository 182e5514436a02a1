-- How tokens are printed so that they are cut again as they were.
use Rattle.std.specs.Prelude.{◌≡◌, ℕ, Bool, true, false, ◌&&◌, ◌||◌, not, IsTrue, List, [], ◌∷◌, ◌++◌, map, if◌then◌else◌, None, Some}
use Rattle.std.specs.List.{list_all}
use Rattle.std.specs.Char.{is_ascii_lowercase}
use Rattle.ff_rec.specs.Number.{IsNumber, printed}
use Rattle.ff_text.specs.declared.text_mark.TextMark.{TextMark}
use Rattle.ff_text.specs.declared.text_mark.TextMark.TheVariants.{Open, Close, Comma, Less, AtMost, Equal, Unequal, AtLeast, Greater, Semicolon}
use Rattle.ff_text.specs.Tokens.{Token, Word, Number, Sign, Quoted, Bad, Stop, PlacedToken}
use Rattle.ff_text.specs.Classes.{is_in_word, is_in_quotes}
use Rattle.ff_text.specs.Cutting.{tokens}

-- a token, and whether a blank is printed before it
pub record Piece : Type 0 where
  pub blank : Bool
  pub token : Token

-- the bytes of a mark
abbrev pub mark_bytes : TextMark → List ℕ
mark_bytes Open = 40 ∷ []
mark_bytes Close = 41 ∷ []
mark_bytes Comma = 44 ∷ []
mark_bytes Less = 60 ∷ []
mark_bytes AtMost = 60 ∷ 61 ∷ []
mark_bytes Equal = 61 ∷ []
mark_bytes Unequal = 33 ∷ 61 ∷ []
mark_bytes AtLeast = 62 ∷ 61 ∷ []
mark_bytes Greater = 62 ∷ []
mark_bytes Semicolon = 59 ∷ []

-- the bytes of a token; 34 is the quote
abbrev pub written : Token → List ℕ
written (Word bytes) = bytes
written (Number None) = []
written (Number (Some n)) = printed n
written (Sign mark) = mark_bytes mark
written (Quoted bytes) = 34 ∷ bytes ++ 34 ∷ []
written Bad = []
written Stop = []

-- the bytes of pieces, one behind another
abbrev pub printed_text : List Piece → List ℕ
printed_text [] = []
printed_text (p ∷ ps) = (if p.blank then 32 ∷ [] else []) ++ (written p.token ++ printed_text ps)

-- a small letter, then small letters and digits
abbrev pub is_word : List ℕ → Bool
is_word [] = false
is_word (b ∷ bs) = is_ascii_lowercase b && list_all is_in_word bs

-- a token that bytes can stand for
abbrev pub IsPrintable : Token → Type 0
IsPrintable (Word bytes) = IsTrue (is_word bytes)
IsPrintable (Number None) = ⊥
IsPrintable (Number (Some n)) = IsNumber n
IsPrintable (Sign mark) = Unit {0}
IsPrintable (Quoted bytes) = IsTrue (list_all is_in_quotes bytes)
IsPrintable Bad = ⊥
IsPrintable Stop = ⊥

-- words and numbers
abbrev pub is_wordlike : Token → Bool
is_wordlike (Word bytes) = true
is_wordlike (Number n) = true
is_wordlike _ = false

-- `<` and `>`
abbrev pub is_angle : Token → Bool
is_angle (Sign Less) = true
is_angle (Sign Greater) = true
is_angle _ = false

-- `=`
abbrev pub is_equal : Token → Bool
is_equal (Sign Equal) = true
is_equal _ = false

-- Tokens that need a blank between them: words and numbers, and `<` or `>` with `=` behind it.
abbrev pub run_together : Token → Token → Bool
run_together t u = (is_wordlike t && is_wordlike u) || (is_angle t && is_equal u)

-- pieces that bytes can stand for, with a blank between each two that need one
abbrev pub AreApart : List Piece → Type 0
AreApart [] = Unit {0}
AreApart (p ∷ []) = IsPrintable p.token
AreApart (p ∷ q ∷ ps) = IsPrintable p.token × IsTrue (q.blank || not (run_together p.token q.token)) × AreApart (q ∷ ps)

-- the tokens of spots
abbrev pub tokens_of : List PlacedToken → List Token
tokens_of spots = map (λ s. s.token) spots

-- the tokens of pieces
abbrev pub pieces_of : List Piece → List Token
pieces_of ps = map (λ p. p.token) ps

-- what is printed is cut into the tokens that were printed
abbrev pub PrintedIsCut : Type 0
PrintedIsCut = (ps : List Piece) → AreApart ps → tokens_of (tokens (printed_text ps)) ≡ pieces_of ps ++ Stop ∷ []
