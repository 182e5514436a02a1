-- What words say to a command of the parser, where it takes them.
use Rattle.std.specs.Prelude.{ℕ, List, [], ◌∷◌, map, Option, None, Some, string_bytes, String}
use Rattle.std.specs.Global.{Global}
use Rattle.clap.specs.Words.{App, Kinds, Row, fault_of, matches_of}

-- the bytes of each word
abbrev pub texts : List (String Global) → List (List ℕ)
texts words = map string_bytes words

-- the rows, where the words have no fault
abbrev pub unless : Kinds → List Row → Option (List Row)
unless [] rows = Some rows
unless (fault ∷ faults) rows = None

-- what the words give to each argument, where the parser takes them; the first word is the command's name
unfoldable pub parsed : App → List (List ℕ) → Option (List Row)
parsed app words = unless (fault_of app words) (matches_of app words)
