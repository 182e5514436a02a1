-- Bytes in capitals or in small letters, of ASCII.
use Rattle.std.specs.Prelude.{ℕ, List, map}
use Rattle.std.specs.Char.{to_ascii_uppercase, to_ascii_lowercase}
use Rattle.ff_rec.specs.declared.case.Case.{Case}
use Rattle.ff_rec.specs.declared.case.Case.TheVariants.{Upper, Lower}

-- bytes with their letters of ASCII in a case
abbrev pub in_case : Case → List ℕ → List ℕ
in_case Upper bytes = map to_ascii_uppercase bytes
in_case Lower bytes = map to_ascii_lowercase bytes
