-- The events of a core, and what a schedule makes of it.
use Rattle.std.specs.Prelude.{◌≡◌, ◌≢◌, ◌⊎◌, ◌≤◌, ◌<◌, ℕ, Bool, true, false, List, [], ◌∷◌, length, slice_index}
use Rattle.ff_node.specs.Runs.{Act, Took, Gave, Refused, Idle, Told, Handed, took, gave}
use Rattle.ff_port.specs.Queues.{put_of}
use Rattle.ff_unit.specs.Units.{Doing, Known}
use Rattle.ff_steps.specs.Core.{CoreState, parties, party, edge, gots_of, puts_of}
use Rattle.ff_steps.specs.Links.{known_over}
use Rattle.ff_steps.specs.Parties.{Party, AsUnit, AsFeeder, AsDrainer, PartyStep, has_ended}
use Rattle.ff_steps.specs.Wiring.{row_at}

-- an edge that a party doesn't read keeps what was got from it, and one that it doesn't write keeps what was put on it
pub record EdgesKeep {U : Type 0} (p : ℕ) (c c' : CoreState U) : Type 0 where
  pub number : length c'.edges ≡ length c.edges
  pub caps : (e : ℕ) → (edge c' e).cap ≡ (edge c e).cap
  pub got : (e : ℕ) → ((i : ℕ) → i < length (row_at c.rows p).ins → slice_index (row_at c.rows p).ins i ≢ e) → (edge c' e).got ≡ (edge c e).got
  pub put : (e : ℕ) → ((i : ℕ) → i < length (row_at c.rows p).outs → slice_index (row_at c.rows p).outs i ≢ e) → put_of (edge c' e) ≡ put_of (edge c e)

-- what a party knows of its edges
abbrev pub known_at : {U : Type 0} → CoreState U → ℕ → Known
known_at c p = known_over c.edges (row_at c.rows p)

-- a unit may do nothing only where it has ended or ends now, or where it waits
abbrev pub UnitIdles : {U : Type 0} → Doing U → CoreState U → CoreState U → ℕ → U → Bool → Type 0
UnitIdles b c c' p u true = Unit {0}
UnitIdles b c c' p u false = b.Stalls u (known_at c p) (known_at c' p)

-- a feeder only where it has ended or its edge is full, and a drainer only where it has ended or its edge is empty
abbrev pub MayIdle : {U : Type 0} → Doing U → CoreState U → CoreState U → ℕ → Party U → Party U → Type 0
MayIdle b c c' p (AsUnit u) new = UnitIdles b c c' p u (has_ended b new)
MayIdle b c c' p (AsFeeder f) new = (f.done ≡ true) ⊎ (slice_index (known_at c p).rooms 0 ≡ 0)
MayIdle b c c' p (AsDrainer d) new = (d.done ≡ true) ⊎ (slice_index (known_at c p).knowns 0 ≡ 0)

abbrev pub Stalls : {U : Type 0} → Doing U → CoreState U → CoreState U → ℕ → Party U → Party U → Act → Type 0
Stalls b c c' p old new (Took k m) = Unit {0}
Stalls b c c' p old new (Gave k m) = Unit {0}
Stalls b c c' p old new Refused = Unit {0}
Stalls b c c' p old new Idle = MayIdle b c c' p old new
Stalls b c c' p old new Told = ⊥
Stalls b c c' p old new (Handed x) = ⊥

-- party `p` makes one step, which its edges see; everything else stays
pub record CoreStep {U : Type 0} (b : Doing U) (p : ℕ) (c c' : CoreState U) : Type 0 where
  pub act : Act
  pub steps : PartyStep b (party c p) act (party c' p)
  pub takes : gots_of c' p ≡ took act (gots_of c p)
  pub gives : puts_of c' p ≡ gave act (puts_of c p)
  pub stalls : Stalls b c c' p (party c p) (party c' p) act
  pub edges : EdgesKeep p c c'
  pub others : (q : ℕ) → q < length (parties c) → q ≢ p → party c' q ≡ party c q
  pub number : length c'.units ≡ length c.units
  pub made : (c'.made ≡ c.made) × (c'.input ≡ c.input) × (c'.rows ≡ c.rows)

-- one event: a step of the party with this number; a number that names none does nothing
abbrev pub Event : {U : Type 0} → Doing U → ℕ → CoreState U → CoreState U → Type 0
Event b p c c' = ((p < length (parties c)) × CoreStep b p c c') ⊎ ((length (parties c) ≤ p) × (c' ≡ c))

-- one event for each number of the schedule, in turn and nothing else, and a good moment after each
abbrev pub Follows : {U : Type 0} → Doing U → (CoreState U → Type 0) → List ℕ → CoreState U → CoreState U → Type 0
Follows b Good [] c c' = c' ≡ c
Follows {U} b Good (p ∷ ps) c c' = (d : CoreState U) × Event b p c d × Good d × Follows b Good ps d c'
