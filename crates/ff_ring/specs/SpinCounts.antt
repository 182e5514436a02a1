-- How many spins there are at most between two tries.
use Rattle.std.specs.Prelude.{ℕ}
use Rattle.ff_ring.specs.declared.spins.Spins.{Spins}
use Rattle.ff_ring.specs.declared.spins.Spins.TheVariants.{Few, Long, Many}

-- the most spins of a thread that spins so
abbrev pub most_spins : Spins → ℕ
most_spins Few = 64
most_spins Long = 64
most_spins Many = 1024

-- how often it looks on behind them
abbrev pub most_looks : Spins → ℕ
most_looks Few = 0
most_looks Long = 64
most_looks Many = 0
