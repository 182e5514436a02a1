-- The limits of networks, each by its name.
use Rattle.std.specs.Prelude.{ℕ}
use Rattle.ff_net.specs.declared.net.Version.{Version}
use Rattle.ff_net.specs.declared.net.Version.TheVariants.{One, Two}

-- how many networks may stand one in another
abbrev pub most_depth : ℕ
most_depth = 16

-- the most parts of a pipe or comb, the most workers or copies of a set, and the last number of a field
abbrev pub most_parts : ℕ
most_parts = 64

-- the most units of a plan, by the version
abbrev pub most_units : Version → ℕ
most_units One = 128
most_units Two = 256

-- the most edges of a plan
abbrev pub most_edges : ℕ
most_edges = 2048
