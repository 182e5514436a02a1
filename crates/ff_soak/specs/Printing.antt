-- A summary as it is written.
use Rattle.std.specs.Prelude.{ℕ, List, [], ◌∷◌, ◌++◌, ℤ, pos, codes}
use Rattle.ff_rec.specs.Number.{printed}
use Rattle.ff_soak.specs.declared.summary.Summary.{Summary}

-- a name and a number as a line, with a space between them
abbrev pub named : List ℕ → ℤ → List ℕ
named name n = name ++ 32 ∷ [] ++ printed n ++ 10 ∷ []

-- the three lines of a summary
abbrev pub summary_text : Summary → List ℕ
summary_text s = named (codes "records") (pos s.records) ++ named (codes "keys") (pos s.keys) ++ named (codes "total") s.total
