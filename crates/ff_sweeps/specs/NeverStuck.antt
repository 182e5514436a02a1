-- No network of the plain kind gets stuck.
use Rattle.std.specs.Prelude.{◌≡◌, ◌⊎◌, ◌≤◌, ℕ, Bool, true, false, List}
use Rattle.ff_rec.specs.Lines.{Rec}
use Rattle.ff_node.specs.Behaviour.{Behaviour}
use Rattle.ff_net.specs.Counts.{units}
use Rattle.ff_net.specs.Tree.{Tree}
use Rattle.ff_steps.specs.Core.{CoreState, all_ended, is_short}
use Rattle.ff_steps.specs.Events.{Follows}
use Rattle.ff_steps.specs.NetCores.{IsGood, opened_net}
use Rattle.ff_steps.specs.NetUnits.{NetState, net_does}
use Rattle.ff_plan.specs.Traffic.{budget}
use Rattle.ff_sweeps.specs.Progress.{HasMoved}
use Rattle.ff_sweeps.specs.Schedules.{sweep, sweeps_of}

-- so many sweeps as the budget has, from the opening state, end all parties, or memory is short
abbrev pub NeverStuck : {N : Type 0} → Behaviour N → ℕ → Bool → Tree N → Type 0
NeverStuck {N} b m keep t = (cap : ℕ) (input : List Rec) (c : CoreState (NetState N)) → 1 ≤ cap
    → Follows (net_does b) (IsGood b m t) (sweeps_of (units t) (budget b m t input)) (opened_net b m keep t cap input) c
    → (all_ended (net_does b) c ≡ true) ⊎ (is_short (net_does b) c ≡ true)

-- in each sweep from the opening state on, until all have ended or memory is short, some party moves a message, ends
-- or is refused memory
abbrev pub EachSweepMoves : {N : Type 0} → Behaviour N → ℕ → Bool → Tree N → Type 0
EachSweepMoves {N} b m keep t = (cap : ℕ) (input : List Rec) (made : ℕ) (c d : CoreState (NetState N)) → 1 ≤ cap
    → Follows (net_does b) (IsGood b m t) (sweeps_of (units t) made) (opened_net b m keep t cap input) c
    → Follows (net_does b) (IsGood b m t) (sweep (units t)) c d
    → all_ended (net_does b) c ≡ false → is_short (net_does b) d ≡ false → HasMoved b c d
