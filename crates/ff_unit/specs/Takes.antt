-- What a take at any of the ins that still give does.
use Rattle.std.specs.Prelude.{◌≡◌, ◌⊎◌, ◌<◌, ◌≤◌, ℕ, Bool, List, slice_index, Option, None, Some}
use Rattle.ff_rec.specs.Streams.{added}
use Rattle.ff_node.specs.Runs.{Message}
use Rattle.ff_unit.specs.Closing.{IsLive, AllDry}
use Rattle.ff_unit.specs.Units.{Known}

-- a message of a live in is taken, or no live in gave anything
abbrev pub TakesAny : List Bool → List (List Message) → Known → Option (ℕ × Message) → List (List Message) → Known → Type 0
TakesAny live gots before None gots' after = (gots' ≡ gots) × AllDry live before after
TakesAny live gots before (Some taken) gots' after = IsLive live taken.0 × (gots' ≡ added gots taken.0 taken.1)

-- in `j` comes before in `k` in the round that begins at in `next`
abbrev pub ComesBefore : ℕ → ℕ → ℕ → Type 0
ComesBefore next j k = ((next ≤ j) × (j < k)) ⊎ ((k < next) × ((next ≤ j) ⊎ (j < k)))

-- no live in is passed over at which something was known
abbrev pub PassesDry : ℕ → List Bool → List ℕ → Option (ℕ × Message) → Type 0
PassesDry next live knowns None = Unit {0}
PassesDry next live knowns (Some taken) = (j : ℕ) → IsLive live j → ComesBefore next j taken.0 → slice_index knowns j ≡ 0

-- nothing is known at any live in from `low` on and below `high`
abbrev pub DryBetween : ℕ → ℕ → List Bool → List ℕ → Type 0
DryBetween low high live knowns = (k : ℕ) → low ≤ k → k < high → IsLive live k → slice_index knowns k ≡ 0

-- the ins from `low` on and below `high` alone are looked at
abbrev pub TakesBetween : ℕ → ℕ → List Bool → List (List Message) → List ℕ → Option (ℕ × Message) → List (List Message) → List ℕ → Type 0
TakesBetween low high live gots knowns None gots' knowns' = (gots' ≡ gots) × (knowns' ≡ knowns) × DryBetween low high live knowns
TakesBetween low high live gots knowns (Some taken) gots' knowns' =
    IsLive live taken.0 × (gots' ≡ added gots taken.0 taken.1) × (low ≤ taken.0) × (taken.0 < high) × DryBetween low taken.0 live knowns
