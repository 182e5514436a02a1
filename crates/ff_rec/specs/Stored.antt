-- What stands for the bytes of a record as it keeps them.
use Rattle.std.specs.Prelude.{ℕ, List}

-- bytes, and the number of fields that they are
pub record Stored : Type 0 where
  pub items : List ℕ
  pub count : ℕ

-- these bytes and this number
abbrev pub stored_as : List ℕ → ℕ → Stored
stored_as items count = record { items = items; count = count }
