-- That something happened between two moments of a core.
use Rattle.std.specs.Prelude.{◌≡◌, ◌⊎◌, ◌<◌, ℕ, Bool, true, false, length}
use Rattle.ff_node.specs.Behaviour.{Behaviour}
use Rattle.ff_port.specs.Queues.{put_of}
use Rattle.ff_steps.specs.Core.{CoreState, edge, party}
use Rattle.ff_steps.specs.NetUnits.{NetState, net_does}
use Rattle.ff_steps.specs.Parties.{Party, AsUnit, AsFeeder, AsDrainer, has_ended}
use Rattle.ff_sweeps.specs.Cuts.{is_cut}

-- whether a party is a unit that was cut off
abbrev pub is_cut_off : {N : Type 0} → Party (NetState N) → Bool
is_cut_off (AsUnit u) = is_cut u
is_cut_off (AsFeeder f) = false
is_cut_off (AsDrainer d) = false

-- a message was taken from some edge, or put on it
abbrev pub HasTaken : {N : Type 0} → CoreState (NetState N) → CoreState (NetState N) → Type 0
HasTaken c d = (e : ℕ) × (length (edge c e).got < length (edge d e).got)

abbrev pub HasPut : {N : Type 0} → CoreState (NetState N) → CoreState (NetState N) → Type 0
HasPut c d = (e : ℕ) × (length (put_of (edge c e)) < length (put_of (edge d e)))

-- some party ended, or was cut off since it was refused memory
abbrev pub SomeEnded : {N : Type 0} → Behaviour N → CoreState (NetState N) → CoreState (NetState N) → Type 0
SomeEnded b c d = (p : ℕ) × (has_ended (net_does b) (party c p) ≡ false)
    × (has_ended (net_does b) (party d p) ≡ true)

abbrev pub SomeRefused : {N : Type 0} → CoreState (NetState N) → CoreState (NetState N) → Type 0
SomeRefused c d = (p : ℕ) × (is_cut_off (party c p) ≡ false) × (is_cut_off (party d p) ≡ true)

-- some party moved a message, ended or was refused memory
abbrev pub HasMoved : {N : Type 0} → Behaviour N → CoreState (NetState N) → CoreState (NetState N) → Type 0
HasMoved b c d = (HasTaken c d ⊎ HasPut c d) ⊎ (SomeEnded b c d ⊎ SomeRefused c d)
