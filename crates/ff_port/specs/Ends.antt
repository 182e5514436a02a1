-- The numbered ends of one unit: what a try at one of them does, and that all others stay.
use Rattle.std.specs.Prelude.{◌≡◌, ℕ, ◌+◌, ◌≤◌, Bool, true, List, slice_index, slice_set, Option, None, Some}
use Rattle.ff_rec.specs.Streams.{IsOpenMsg}
pub use Rattle.ff_rec.specs.Streams.{at, added}
use Rattle.ff_rec.specs.declared.msg.Msg.{Msg}
use Rattle.ff_port.specs.declared.answers.Put.{Put as PutAnswer}
use Rattle.ff_port.specs.declared.answers.Put.TheVariants.{Done, Full, NoMemory}

-- these numbers differ at place `k` alone
abbrev pub OthersStay : ℕ → List ℕ → List ℕ → Type 0
OthersStay k ns ns' = ns' ≡ slice_set ns k (slice_index ns' k)

-- a take at in `k`
abbrev pub TakesAt : {T : Type 0} → ℕ → List (List (Msg T)) → List ℕ → Option (Msg T) → List (List (Msg T)) → List ℕ → Type 0
TakesAt k gots knowns None gots' knowns' = (gots' ≡ gots) × (slice_index knowns k ≡ 0) × (slice_index knowns' k ≡ 0)
TakesAt k gots knowns (Some m) gots' knowns' = gots' ≡ added gots k m

-- a put at out `k`
abbrev pub PutsAt : {T : Type 0} → Bool → ℕ → List (List (Msg T)) → List ℕ → Msg T → PutAnswer T → List (List (Msg T)) → List ℕ → Type 0
PutsAt grows k puts rooms m Done puts' rooms' = (puts' ≡ added puts k m) × (slice_index rooms k ≤ slice_index rooms' k + 1)
PutsAt grows k puts rooms m (Full back) puts' rooms' = (back ≡ m) × (puts' ≡ puts) × (slice_index rooms k ≡ 0) × (slice_index rooms' k ≡ 0)
PutsAt grows k puts rooms m (NoMemory back) puts' rooms' = (back ≡ m) × (puts' ≡ puts) × (grows ≡ true) × IsOpenMsg m
