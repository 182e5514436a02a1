-- How a text is cut into statements, and a statement into words.
use Rattle.std.specs.Prelude.{ℕ, Bool, false, not, ◌==◌, ◌||◌, ◌&&◌, nat_le, if◌then◌else◌, List, [], ◌∷◌, length, take, codes, ℤ, Option, None}
use Rattle.std.specs.List.{prefix_len, filter, flat_map}
use Rattle.std.specs.Char.{is_ascii_lowercase, is_ascii_digit}
use Rattle.std.specs.Str.{bytes_eq}
use Rattle.ff_rec.specs.Lines.{cut, onto_first}
use Rattle.ff_rec.specs.Number.{number}

-- any byte but `#` (35)
abbrev pub is_told : ℕ → Bool
is_told b = not (b == 35)

-- a line without its comment
abbrev pub uncommented : List ℕ → List ℕ
uncommented line = take (prefix_len is_told line) line

-- a line, cut at its `;` (59)
abbrev pub line_pieces : List ℕ → List (List ℕ)
line_pieces line = cut 59 (uncommented line)

-- space, tab and carriage return
abbrev pub is_blank : ℕ → Bool
is_blank b = b == 32 || b == 9 || b == 13

-- a piece that says something
abbrev pub is_statement : List ℕ → Bool
is_statement piece = not (prefix_len is_blank piece == length piece)

-- the statements of a text, each as its bytes
abbrev pub statements : List ℕ → List (List ℕ)
statements text = filter is_statement (flat_map line_pieces (cut 10 text))

-- space and tab
abbrev pub is_space : ℕ → Bool
is_space b = b == 32 || b == 9

-- any byte but space, tab and `=` (61)
abbrev pub is_in_word : ℕ → Bool
is_in_word b = not (b == 32 || b == 9 || b == 61)

-- a byte in front of bytes whose words are known: it belongs to the first word where no space and no `=` comes between
abbrev pub joined : ℕ → List ℕ → List (List ℕ) → List (List ℕ)
joined b [] ws = (b ∷ []) ∷ ws
joined b (c ∷ cs) ws = if is_in_word c then onto_first b ws else (b ∷ []) ∷ ws

-- The words of a statement: `=` is a word by itself, and the others are runs of bytes between spaces and `=`.
abbrev pub words : List ℕ → List (List ℕ)
words [] = []
words (b ∷ bs) = if is_space b then words bs else (if b == 61 then (61 ∷ []) ∷ words bs else joined b bs (words bs))

-- a small letter, a digit or `_` (95)
abbrev pub is_in_name : ℕ → Bool
is_in_name b = is_ascii_lowercase b || is_ascii_digit b || b == 95

-- a small letter and up to 31 bytes of names, and not `out`
abbrev pub is_name : List ℕ → Bool
is_name [] = false
is_name (b ∷ bs) = is_ascii_lowercase b && prefix_len is_in_name bs == length bs && nat_le (length bs) 31 && not (bytes_eq (b ∷ bs) (codes "out"))

-- an optional `-` and digits, within 64 bits: a number of a field that doesn't begin with `+` (43)
abbrev pub plain_number : List ℕ → Option ℤ
plain_number [] = None
plain_number (b ∷ bs) = if b == 43 then None else number (b ∷ bs)
