-- What each sweep raises.
use Rattle.std.specs.Prelude.{◌+◌, ◌==◌, ◌||◌, if◌then◌else◌, ℕ, Bool, true, false, length}
use Rattle.ff_rec.specs.Weights.{weigh}
use Rattle.ff_node.specs.Behaviour.{Behaviour}
use Rattle.ff_plan.specs.Rows.{range}
use Rattle.ff_port.specs.Queues.{put_of}
use Rattle.ff_steps.specs.Core.{CoreState, party, edge}
use Rattle.ff_steps.specs.NetUnits.{NetState, net_does}
use Rattle.ff_steps.specs.Parties.{Party, AsUnit, AsFeeder, AsDrainer}
use Rattle.ff_sweeps.specs.Cuts.{is_cut, IsPlainUnit}

abbrev pub one_if : Bool → ℕ
one_if true = 1
one_if false = 0

-- a party has ended, or was cut off
abbrev pub is_closed : {N : Type 0} → Behaviour N → Party (NetState N) → Bool
is_closed b (AsUnit u) = (net_does b).done u || is_cut u
is_closed b (AsFeeder f) = f.done
is_closed b (AsDrainer d) = d.done

-- the messages that were got, those that were put on all edges but the last one, and the parties that are closed
abbrev pub got_size : {N : Type 0} → CoreState (NetState N) → ℕ → ℕ
got_size c e = length (edge c e).got

abbrev pub put_size : {N : Type 0} → CoreState (NetState N) → ℕ → ℕ
put_size c e = if e == 1 then 0 else length (put_of (edge c e))

abbrev pub closed_size : {N : Type 0} → Behaviour N → CoreState (NetState N) → ℕ → ℕ
closed_size b c p = one_if (is_closed b (party c p))

abbrev pub potential : {N : Type 0} → Behaviour N → ℕ → ℕ → CoreState (NetState N) → ℕ
potential b edges parties c = weigh (got_size c) (range 0 edges) + (weigh (put_size c) (range 0 edges) + weigh (closed_size b c) (range 0 parties))

abbrev pub IsPlainParty : {N : Type 0} → Party (NetState N) → Type 0
IsPlainParty (AsUnit u) = IsPlainUnit u
IsPlainParty (AsFeeder f) = Unit {0}
IsPlainParty (AsDrainer d) = Unit {0}
