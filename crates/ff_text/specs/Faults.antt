-- The first fault of a text, said of whole texts.
use Rattle.std.specs.Prelude.{◌≡◌, ◌≢◌, ℕ, List, [], ◌∷◌, ◌++◌, codes, Option, None, Some, ℤ}
use Rattle.std.specs.Prelude.{◌⊎◌}
use Rattle.ff_ops.specs.Operation.{OpState}
use Rattle.ff_ops.specs.Table.{row_named}
use Rattle.ff_net.specs.Tree.{Tree}
use Rattle.ff_text.specs.declared.fault.TextKind.{TextKind}
use Rattle.ff_text.specs.declared.fault.TextKind.TheVariants.{BadByte, BadToken, UnknownName, Range, Deep, End, Large, TakenName}
use Rattle.ff_text.specs.declared.form.Form.{Form}
use Rattle.ff_text.specs.declared.text_mark.TextMark.TheVariants.{Semicolon}
use Rattle.ff_text.specs.Tokens.{Token, Word, Number, Sign, Bad, Stop, PlacedToken}
use Rattle.ff_text.specs.Printing.{tokens_of}
use Rattle.ff_text.specs.Grammar.{form_word, form_named, spelling, IsNet, most_forms}

-- the tokens of a text that spells a network
abbrev pub text_of : Tree OpState → List Token
text_of t = spelling t ++ Stop ∷ []

-- Some text of a network begins with these tokens.
abbrev pub Begins : List Token → Type 0
Begins ts = (t : Tree OpState) × (more : List Token) × IsNet t most_forms × (text_of t ≡ ts ++ more)

-- a network may stand next, since `id` may
abbrev pub AwaitsNet : List Token → Type 0
AwaitsNet before = Begins (before ++ Word (codes "id") ∷ [])

-- a number may stand next
abbrev pub AwaitsNumber : List Token → Type 0
AwaitsNumber before = (n : ℤ) × Begins (before ++ Number (Some n) ∷ [])

-- no token begins at the byte
abbrev pub IsBadByte : Token → Type 0
IsBadByte t = (t ≡ Bad) ⊎ (t ≡ Sign Semicolon)

-- the word of a form
abbrev pub IsFormWord : Token → Type 0
IsFormWord t = (form : Form) × (t ≡ Word (form_word form))

-- a word that is neither a form nor an operation
abbrev pub IsUnknownWord : Token → Type 0
IsUnknownWord t = (name : List ℕ) × (t ≡ Word name) × (form_named name ≡ None) × (row_named name ≡ None)

-- a number, also one beyond 64 bits
abbrev pub IsNumberToken : Token → Type 0
IsNumberToken t = (n : Option ℤ) × (t ≡ Number n)

-- what a kind of fault says of a token behind others
abbrev pub Means : TextKind → List Token → Token → Type 0
Means BadByte before t = IsBadByte t
Means Deep before t = AwaitsNet before × IsFormWord t
Means UnknownName before t = AwaitsNet before × IsUnknownWord t
Means Large before t = ⊥
Means TakenName before t = ⊥
Means Range before t = AwaitsNumber before × IsNumberToken t
Means End before t = t ≡ Stop
Means BadToken before t =
    (IsBadByte t → ⊥) × (t ≢ Stop) × (AwaitsNet before → IsFormWord t → ⊥) × (AwaitsNet before → IsUnknownWord t → ⊥) × (AwaitsNumber before → IsNumberToken t → ⊥)

-- a place in a text, and what is wrong there
pub record Fault : Type 0 where
  pub at : ℕ
  pub kind : TextKind

-- the first token with which no text of a network goes on
pub record IsFault (spots : List PlacedToken) (f : Fault) : Type 0 where
  pub before : List PlacedToken
  pub spot : PlacedToken
  pub after : List PlacedToken
  pub whole : spots ≡ before ++ spot ∷ after
  pub viable : Begins (tokens_of before)
  pub stuck : Begins (tokens_of before ++ spot.token ∷ []) → ⊥
  pub kind : Means f.kind (tokens_of before) spot.token
  pub at : f.at ≡ spot.at
