-- A core of which no party can move.
use Rattle.std.specs.Prelude.{◌≡◌, ◌⊎◌, ◌≤◌, ◌<◌, ℕ, true, false, length, slice_index, slice_index_or}
use Rattle.ff_node.specs.Behaviour.{Behaviour}
use Rattle.ff_net.specs.Counts.{edges}
use Rattle.ff_net.specs.Tree.{Tree}
use Rattle.ff_unit.specs.Units.{Doing, Known}
use Rattle.ff_steps.specs.Core.{CoreState, party, parties, edge}
use Rattle.ff_steps.specs.Events.{known_at}
use Rattle.ff_steps.specs.NetUnits.{NetState, net_does}
use Rattle.ff_steps.specs.Parties.{Party, AsUnit, AsFeeder, AsDrainer}
use Rattle.ff_unit.proofs.Rests.{AtRest}

-- a party can't move: it has ended, or what is due gives nothing
abbrev pub PartyRests : {U : Type 0} → Doing U → Known → Party U → Type 0
PartyRests d known (AsUnit u) = AtRest d u known known
PartyRests d known (AsFeeder f) = (f.done ≡ true) ⊎ (slice_index known.rooms 0 ≡ 0)
PartyRests d known (AsDrainer e) = (e.done ≡ true) ⊎ (slice_index known.knowns 0 ≡ 0)

abbrev pub CannotMove : {U : Type 0} → Doing U → CoreState U → Type 0
CannotMove d c = (p : ℕ) → p < length (parties c) → PartyRests d (known_at c p) (party c p)

-- the core has the edges of the plan, each has room for a message, and no unit was told to abort
pub record CanRun {N : Type 0} (b : Behaviour N) (t : Tree N) (c : CoreState (NetState N)) : Type 0 where
  pub many : length c.edges ≡ edges t
  pub caps : (e : ℕ) → e < edges t → 1 ≤ (edge c e).cap
  pub untold : (i : ℕ) (u : NetState N) → i < length c.units → (net_does b).told (slice_index_or c.units i u) ≡ false
