-- A file that holds too many bytes has no network.
use Rattle.std.proofs.Common.{ℕ, ◌<◌, suc, List, length, Option, None, Some, arith}
use Rattle.std.proofs.Math.ListN.{replicate}
use Rattle.std.proofs.lemmas.List.{length-replicate}
use Rattle.ff_io.specs.Files.{Holdings, HoldsMore}
use Rattle.ff_call.specs.Texts.{IsLong}
use Rattle.ff_words.specs.declared.command.Given.TheVariants.{File}

-- there are texts of any length
long_text : (n : ℕ) → (text : List ℕ) × (n < length text)
long_text n = (replicate (suc n) 0, omega (arith, length-replicate {A = ℕ} (suc n) 0))

pub IsLong-file : (told : Option Holdings) (name : List ℕ) → HoldsMore told name 65536 → IsLong told (File name)
IsLong-file None name h = let long = long_text 65536 in record { text = long.0; is_text = tt; long = long.1 }
IsLong-file (Some holds) name h = record { text = h.0; is_text = h.1; long = h.2 }
