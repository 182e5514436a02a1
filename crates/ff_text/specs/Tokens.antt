-- What a text is cut into.
use Rattle.std.specs.Prelude.{ℕ, List, Option, ℤ}
use Rattle.ff_rec.specs.Lines.{IsPlain}
use Rattle.ff_text.specs.declared.text_mark.TextMark.{TextMark}

-- A number outside 64 bits with a sign has no value. `Bad` is a byte at which no token begins, `Stop` the end of a text.
pub data Token : Type 0 where
  Word : List ℕ → Token
  Number : Option ℤ → Token
  Sign : TextMark → Token
  Quoted : List ℕ → Token
  Bad : Token
  Stop : Token

-- a token and the place of its first byte, from 0
pub record PlacedToken : Type 0 where
  pub token : Token
  pub at : ℕ

-- what stands between quotes may be a field of a record
abbrev pub HasPlainText : Token → Type 0
HasPlainText (Word bytes) = Unit {0}
HasPlainText (Number value) = Unit {0}
HasPlainText (Sign mark) = Unit {0}
HasPlainText (Quoted bytes) = IsPlain bytes
HasPlainText Bad = Unit {0}
HasPlainText Stop = Unit {0}
