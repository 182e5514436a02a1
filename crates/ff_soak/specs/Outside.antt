-- What a soak reads from and writes to.
use Rattle.std.specs.Prelude.{ℕ, Bool, false, List, []}
use Rattle.ff_rec.specs.Lines.{text}
use Rattle.ff_soak.specs.Records.{soak_records}

-- a source of records that are made as they are read: the bytes left, and whether the last read told the end
pub record Making : Type 0 where
  pub left : List ℕ
  pub ended : Bool

-- a source of the first `n` records, before its first call
abbrev pub opened_making : ℕ → Making
opened_making n = record { left = text (soak_records n); ended = false }

-- a sink that holds what it takes: the bytes, and how often memory was wanting
pub record Held : Type 0 where
  pub bytes : List ℕ
  pub faults : ℕ

-- a sink that took nothing, before its first call
abbrev pub opened_held : Held
opened_held = record { bytes = []; faults = 0 }
