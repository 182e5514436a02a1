-- What is told of hand-overs.
use Rattle.std.specs.Prelude.{◌≡◌, ◌⊎◌, ℕ, ◌+◌, ◌-◌, ◌/◌, ◌<◌, max, Bool, false}
use Rattle.ff_ring.specs.declared.ringer.Ringer.{Ringer}

-- how often something was handed over that the other end's thread wasn't told of
abbrev pub untold_of : Ringer → ℕ
untold_of r = r.untold

-- after how many bundles a reader is told at the latest, in a ring of so many slots: a quarter of them, and one at least, is still free
-- then, so that the writer goes on while the reader wakes. In a ring of one slot it is told of each
abbrev pub told_of_bundles : ℕ → ℕ
told_of_bundles slots = slots - max 1 (slots / 4)

-- after how many blocks that came back a writer is told at the latest
abbrev pub told_of_blocks : ℕ → ℕ
told_of_blocks slots = (slots + 1) / 2

-- something more was handed over: the thread was told of all, or not of this either, and not of so much
abbrev pub Notes : Bool → ℕ → Ringer → Ringer → Type 0
Notes eager much r r' =
    (untold_of r' ≡ 0) ⊎ ((eager ≡ false) × (untold_of r' ≡ untold_of r + 1) × (untold_of r' < much))
