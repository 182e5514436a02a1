-- The records of a soak.
use Rattle.std.specs.Prelude.{ℕ, zero, suc, ◌*◌, ◌%◌, List, [], ◌∷◌, pos}
use Rattle.ff_rec.specs.Lines.{Rec}
use Rattle.ff_rec.specs.Number.{printed}

-- record `i`: the letter `w` and the digits of `i * i mod 11`, and those of `617 * i mod 1000`
abbrev pub soak_record : ℕ → Rec
soak_record i = (119 ∷ printed (pos (i * i % 11))) ∷ printed (pos (617 * i % 1000)) ∷ []

-- so many records behind the first `i`
abbrev pub records_behind : ℕ → ℕ → List Rec
records_behind i zero = []
records_behind i (suc k) = soak_record (suc i) ∷ records_behind (suc i) k

-- the first `n` records
abbrev pub soak_records : ℕ → List Rec
soak_records n = records_behind 0 n
