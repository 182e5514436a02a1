-- How the cutting goes on, and how it ends.
use Rattle.std.specs.Prelude.{◌≡◌, ◌≢◌, ℕ, ◌+◌, List, [], ◌∷◌, ◌++◌, length, drop}
use Rattle.std.specs.List.{All}
use Rattle.ff_text.specs.Tokens.{Stop, PlacedToken}
use Rattle.ff_text.specs.Cutting.{lexeme, put, spots, tokens}

-- what stands at the front of a text comes first, and then the spots of what is behind it
abbrev pub CutsFrontFirst : Type 0
CutsFrontFirst = (b : ℕ) (bs : List ℕ) (at : ℕ) → spots 0 at (b ∷ bs) ≡ put (lexeme b bs).token at (spots 0 (at + 1 + (lexeme b bs).more) (drop (lexeme b bs).more bs))

-- the last spot of a text is `Stop`, at its length, and no other is
abbrev pub StopsAtItsEnd : Type 0
StopsAtItsEnd = (text : List ℕ) → (inner : List PlacedToken) × (tokens text ≡ inner ++ record { token = Stop; at = length text } ∷ []) × All (λ s. s.token ≢ Stop) inner
