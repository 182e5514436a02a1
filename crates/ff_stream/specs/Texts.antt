-- Text that is held until it is written.
use Rattle.std.specs.Prelude.{◌≡◌, ℕ, List, ◌++◌, Option}
use Rattle.std.specs.Io.KnownBytes.{Appends}

-- the first bytes of a text were written, and the others are still held
pub record Writes (held rest : List ℕ) (before now : Option (List ℕ)) : Type 0 where
  pub put : List ℕ
  pub taken : Appends before now put
  pub splits : held ≡ put ++ rest

-- the first bytes of a text were written
pub record WritesSome (held : List ℕ) (before now : Option (List ℕ)) : Type 0 where
  pub put : List ℕ
  pub taken : Appends before now put
  pub back : List ℕ
  pub splits : held ≡ put ++ back
