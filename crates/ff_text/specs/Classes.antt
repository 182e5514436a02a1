-- Which bytes a word, a number, a quoted text and a comment may have behind their first.
use Rattle.std.specs.Prelude.{ℕ, Bool, ◌==◌, ◌||◌, not}
use Rattle.std.specs.Char.{is_ascii_lowercase, is_ascii_digit}
use Rattle.ff_text.specs.declared.byte_class.ByteClass.{ByteClass}
use Rattle.ff_text.specs.declared.byte_class.ByteClass.TheVariants.{InWord, Digit, InQuotes, InLine}

-- space, tab, newline and carriage return
abbrev pub is_blank : ℕ → Bool
is_blank b = b == 32 || b == 9 || b == 10 || b == 13

-- a small letter or a digit
abbrev pub is_in_word : ℕ → Bool
is_in_word b = is_ascii_lowercase b || is_ascii_digit b

-- any byte but the quote (34), tab and newline
abbrev pub is_in_quotes : ℕ → Bool
is_in_quotes b = not (b == 34 || b == 9 || b == 10)

-- any byte but newline
abbrev pub is_in_line : ℕ → Bool
is_in_line b = not (b == 10)

-- the classes by their names in the code
abbrev pub is_of : ByteClass → ℕ → Bool
is_of InWord = is_in_word
is_of Digit = is_ascii_digit
is_of InQuotes = is_in_quotes
is_of InLine = is_in_line
