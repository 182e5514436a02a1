-- What a call of the reader of words answers, as words.
use Rattle.std.specs.Prelude.{◌≡◌, ℕ, suc, length, false, List, [], ◌∷◌, Option, None, Some}
use Rattle.std.specs.Borrow.{Bor}
use Rattle.ff_prog.specs.Words.{words, is_space}

-- the first word and those behind it
abbrev pub words_of : Option (Bor (List ℕ) × Bor (List ℕ)) → List (List ℕ)
words_of None = []
words_of (Some p) = p.0.now ∷ words p.1.now

-- no space stands first
abbrev pub IsWordFirst : List ℕ → Type 0
IsWordFirst [] = Unit {0}
IsWordFirst (b ∷ bs) = is_space b ≡ false

-- how much is still ahead
abbrev pub ahead_size : Option (Bor (List ℕ) × Bor (List ℕ)) → ℕ
ahead_size None = 0
ahead_size (Some p) = suc (length p.1.now)

-- how many bytes are still ahead
abbrev pub rest_size : Option (Bor (List ℕ)) → ℕ
rest_size None = 0
rest_size (Some rest) = suc (length rest.now)
