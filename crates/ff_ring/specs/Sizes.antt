-- How large the parts of a ring are.
use Rattle.std.specs.Prelude.{ℕ, ◌/◌, min, max}
use Rattle.std.specs.Int.{div_ceil}

-- the messages of a full bundle in a ring of this capacity: at most half of it
abbrev pub bundle_size : ℕ → ℕ
bundle_size cap = max 1 (min 32 (cap / 2))

-- the bundles that such a ring can hold, so many that full ones hold its capacity
abbrev pub bundle_count : ℕ → ℕ
bundle_count cap = div_ceil cap (bundle_size cap)
