-- A change of case leaves bytes plain.
use Rattle.std.proofs.Common.{◌≡◌, ◌≢◌, ℕ, ◌<◌, List, [], ◌∷◌, length, map, arith}
use Rattle.std.proofs.lemmas.List.{length-map}
use Rattle.std.proofs.lemmas.Bool.Decides.{nat_tests}
use Rattle.std.specs.Char.{to_ascii_uppercase, to_ascii_lowercase}
use Rattle.ff_rec.specs.Cases.{in_case}
use Rattle.ff_rec.specs.Lines.{IsPlain}
use Rattle.ff_rec.specs.declared.case.Case.{Case}
use Rattle.ff_rec.specs.declared.case.Case.TheVariants.{Upper, Lower}

uppercase-other : (b c : ℕ) → b < 65 → c ≢ b → to_ascii_uppercase c ≢ b
uppercase-other b c small h = grind (arith, nat_tests)

lowercase-other : (b c : ℕ) → b < 65 → c ≢ b → to_ascii_lowercase c ≢ b
lowercase-other b c small h = grind (arith, nat_tests)

-- capitals in place of small letters
IsPlain-uppercase : (bytes : List ℕ) → IsPlain bytes → IsPlain (map to_ascii_uppercase bytes)
IsPlain-uppercase [] h = tt
IsPlain-uppercase (c ∷ cs) h = ((uppercase-other 9 c (omega arith) h.0.0, uppercase-other 10 c (omega arith) h.0.1), IsPlain-uppercase cs h.1)

-- small letters in place of capitals
IsPlain-lowercase : (bytes : List ℕ) → IsPlain bytes → IsPlain (map to_ascii_lowercase bytes)
IsPlain-lowercase [] h = tt
IsPlain-lowercase (c ∷ cs) h = ((lowercase-other 9 c (omega arith) h.0.0, lowercase-other 10 c (omega arith) h.0.1), IsPlain-lowercase cs h.1)

-- either case
pub IsPlain-in_case : (c : Case) (bytes : List ℕ) → IsPlain bytes → IsPlain (in_case c bytes)
IsPlain-in_case Upper bytes h = IsPlain-uppercase bytes h
IsPlain-in_case Lower bytes h = IsPlain-lowercase bytes h

-- there are as many bytes as before
pub length-in_case : (c : Case) (bytes : List ℕ) → length (in_case c bytes) ≡ length bytes
length-in_case Upper bytes = length-map bytes to_ascii_uppercase
length-in_case Lower bytes = length-map bytes to_ascii_lowercase
