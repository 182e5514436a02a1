-- A sink that takes less at a time.
use Rattle.std.specs.Prelude.{ℕ}

-- the sink that it passes on to, and the most that it takes a call
pub record Short (K : Type 0) : Type 0 where
  pub inner : K
  pub most : ℕ
