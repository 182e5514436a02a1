-- How a text is cut into tokens.
use Rattle.std.specs.Prelude.{ℕ, zero, suc, ◌==◌, Bool, false, if◌then◌else◌, List, [], ◌∷◌, take, drop, Option, None, Some}
use Rattle.std.specs.List.{prefix_len}
use Rattle.std.specs.Char.{is_ascii_lowercase, is_ascii_digit}
use Rattle.ff_rec.specs.Number.{number}
use Rattle.ff_text.specs.declared.text_mark.TextMark.TheVariants.{Open, Close, Comma, Less, AtMost, Equal, Unequal, AtLeast, Greater, Semicolon}
use Rattle.ff_text.specs.Tokens.{Token, Word, Number, Sign, Quoted, Bad, Stop, PlacedToken}
use Rattle.ff_text.specs.Classes.{is_blank, is_in_word, is_in_quotes, is_in_line}

-- What stands at a byte: a token, or none where a blank or a comment does; and how many of the bytes behind belong to it.
-- Each is as long as possible.
pub record Lexeme : Type 0 where
  pub token : Option Token
  pub more : ℕ

-- blanks and comments
abbrev pub gap : ℕ → Lexeme
gap more = record { token = None; more = more }

-- tokens
abbrev pub piece : Token → ℕ → Lexeme
piece token more = record { token = Some token; more = more }

-- whether the next byte is that one
abbrev pub is_next : ℕ → List ℕ → Bool
is_next b [] = false
is_next b (c ∷ cs) = c == b

-- a word from its first letter on
abbrev pub word : ℕ → List ℕ → Lexeme
word b bs = piece (Word (b ∷ take (prefix_len is_in_word bs) bs)) (prefix_len is_in_word bs)

-- a number from its first digit or its `-` on, with its value where that is within 64 bits with a sign
abbrev pub digits : ℕ → List ℕ → Lexeme
digits b bs = piece (Number (number (b ∷ take (prefix_len is_ascii_digit bs) bs))) (prefix_len is_ascii_digit bs)

-- behind a `-` (45): a number, where a digit comes next
abbrev pub minus : List ℕ → Lexeme
minus bs = if prefix_len is_ascii_digit bs == 0 then piece Bad 0 else digits 45 bs

-- behind a quote (34): a text, where another quote ends it
abbrev pub quoted : List ℕ → Lexeme
quoted bs =
    if is_next 34 (drop (prefix_len is_in_quotes bs) bs) then piece (Quoted (take (prefix_len is_in_quotes bs) bs)) (suc (prefix_len is_in_quotes bs))
    else piece Bad 0

-- one token, or the other where `=` (61) comes next
abbrev pub with_equal : Token → Token → List ℕ → Lexeme
with_equal alone both bs = if is_next 61 bs then piece both 1 else piece alone 0

-- the marks `(`, `)`, `,`, `;`, `=`, `<`, `<=`, `>`, `>=` and `!=`
abbrev pub sign : ℕ → List ℕ → Lexeme
sign b bs =
    if b == 40 then piece (Sign Open) 0
    else (if b == 41 then piece (Sign Close) 0
    else (if b == 44 then piece (Sign Comma) 0
    else (if b == 59 then piece (Sign Semicolon) 0
    else (if b == 61 then piece (Sign Equal) 0
    else (if b == 60 then with_equal (Sign Less) (Sign AtMost) bs
    else (if b == 62 then with_equal (Sign Greater) (Sign AtLeast) bs
    else (if b == 33 then with_equal Bad (Sign Unequal) bs
    else piece Bad 0)))))))

-- what stands at the byte `b` with `bs` behind it; 35 is `#`
abbrev pub lexeme : ℕ → List ℕ → Lexeme
lexeme b bs =
    if is_blank b then gap 0
    else (if b == 35 then gap (prefix_len is_in_line bs)
    else (if is_ascii_lowercase b then word b bs
    else (if is_ascii_digit b then digits b bs
    else (if b == 45 then minus bs
    else (if b == 34 then quoted bs
    else sign b bs)))))

-- a token in front of the spots behind it; a gap is left out
abbrev pub put : Option Token → ℕ → List PlacedToken → List PlacedToken
put None at behind = behind
put (Some token) at behind = record { token = token; at = at } ∷ behind

-- the spots of a text whose first byte stands at `at`; so many of its first bytes belong to what stands before it
abbrev pub spots : ℕ → ℕ → List ℕ → List PlacedToken
spots skip at [] = record { token = Stop; at = at } ∷ []
spots (suc skip) at (b ∷ bs) = spots skip (suc at) bs
spots zero at (b ∷ bs) = put (lexeme b bs).token at (spots (lexeme b bs).more (suc at) bs)

-- A whole text, cut from the front, each token as long as possible; `Stop` is the last, at the length of the text.
-- Behind a bad byte the cutting goes on at the next byte.
abbrev pub tokens : List ℕ → List PlacedToken
tokens text = spots 0 0 text

-- the spots from the place `at` of a text on
abbrev pub ahead : List ℕ → ℕ → List PlacedToken
ahead text at = spots 0 at (drop at text)
