-- How bytes are cut into lines and fields, and how records are written.
use Rattle.std.specs.Prelude.{◌≢◌, ℕ, ◌≤◌, ◌==◌, if◌then◌else◌, List, [], ◌∷◌, ◌++◌, map, length}
use Rattle.std.specs.List.{AllByRecursion, flat_map}
use Rattle.ff_rec.specs.Weights.{weigh}

-- a record as the contracts see it: its fields, each a list of bytes
abbrev pub Rec : Type 0
Rec = List (List ℕ)

-- a byte that a field may hold: neither tab nor newline
abbrev pub IsPlainByte : ℕ → Type 0
IsPlainByte c = (c ≢ 9) × (c ≢ 10)

-- bytes that may be a field
abbrev pub IsPlain : List ℕ → Type 0
IsPlain bytes = AllByRecursion IsPlainByte bytes

-- how many tabs stand in a line
abbrev pub tabs : List ℕ → ℕ
tabs bytes = weigh (λ c. if c == 9 then 1 else 0) bytes

-- a record has 1 to 64 fields
pub record IsRec (r : Rec) : Type 0 where
  pub some : 1 ≤ length r
  pub few : length r ≤ 64
  pub plain : AllByRecursion IsPlain r

-- the pieces with `c` put in front of the first
abbrev pub onto_first : ℕ → List (List ℕ) → List (List ℕ)
onto_first c [] = (c ∷ []) ∷ []
onto_first c (piece ∷ pieces) = (c ∷ piece) ∷ pieces

-- the pieces between separators, at least one
abbrev pub cut : ℕ → List ℕ → List (List ℕ)
cut sep [] = [] ∷ []
cut sep (c ∷ cs) = if c == sep then [] ∷ cut sep cs else onto_first c (cut sep cs)

-- the pieces, but for a last one that is empty
abbrev pub without_empty_last : List (List ℕ) → List (List ℕ)
without_empty_last [] = []
without_empty_last ([] ∷ []) = []
without_empty_last ((c ∷ cs) ∷ []) = (c ∷ cs) ∷ []
without_empty_last (piece ∷ next ∷ pieces) = piece ∷ without_empty_last (next ∷ pieces)

-- all pieces but the last
abbrev pub without_last : List (List ℕ) → List (List ℕ)
without_last [] = []
without_last (piece ∷ []) = []
without_last (piece ∷ next ∷ pieces) = piece ∷ without_last (next ∷ pieces)

-- the lines of a text: bytes after the last newline, if any, are a last line
abbrev pub lines : List ℕ → List (List ℕ)
lines bytes = without_empty_last (cut 10 bytes)

-- the lines of a text that end in a newline
abbrev pub whole_lines : List ℕ → List (List ℕ)
whole_lines bytes = without_last (cut 10 bytes)

-- the records of a text: each line is cut at its tabs
abbrev pub records : List ℕ → List Rec
records bytes = map (cut 9) (lines bytes)

-- the records of the lines that end in a newline
abbrev pub whole : List ℕ → List Rec
whole bytes = map (cut 9) (whole_lines bytes)

-- the fields, each after a tab
abbrev pub behind : Rec → List ℕ
behind [] = []
behind (field ∷ fields) = 9 ∷ (field ++ behind fields)

-- the fields joined by single tabs
abbrev pub joined : Rec → List ℕ
joined [] = []
joined (field ∷ fields) = field ++ behind fields

-- a record as a line: its fields joined by tabs, and a newline
abbrev pub line_of : Rec → List ℕ
line_of r = joined r ++ 10 ∷ []

-- what is written for a list of records
abbrev pub text : List Rec → List ℕ
text xs = flat_map line_of xs
