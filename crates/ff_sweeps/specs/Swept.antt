-- What sweeps answer.
use Rattle.std.specs.Prelude.{◌≡◌, ◌≤◌, ℕ, true, min}
use Rattle.ff_node.specs.Behaviour.{Behaviour}
use Rattle.ff_net.specs.Counts.{units}
use Rattle.ff_net.specs.Tree.{Tree}
use Rattle.ff_steps.specs.Core.{CoreState, all_ended, is_short}
use Rattle.ff_steps.specs.Events.{Follows}
use Rattle.ff_steps.specs.NetCores.{IsGood}
use Rattle.ff_steps.specs.NetUnits.{NetState, net_does}
use Rattle.ff_plan.specs.Traffic.{budget}
use Rattle.ff_sweeps.specs.Schedules.{sweeps_of}
use Rattle.ff_sweeps.specs.declared.sweeping.Sweeps.{Sweeps}
use Rattle.ff_sweeps.specs.declared.sweeping.Sweeps.TheVariants.{All, NoMemory}

-- so many sweeps were made, by a count that stays at its largest
pub record AreMade {N : Type 0} (b : Behaviour N) (m : ℕ) (t : Tree N) (k : ℕ) (c c' : CoreState (NetState N)) : Type 0 where
  pub number : ℕ
  pub is : k ≡ min number 18446744073709551615
  pub follows : Follows (net_does b) (IsGood b m t) (sweeps_of (units t) number) c c'
  pub few : number ≤ budget b m t c.input
  pub ended : all_ended (net_does b) c' ≡ true

abbrev pub SweptAs : {N : Type 0} → Behaviour N → ℕ → Tree N → Sweeps → CoreState (NetState N) → CoreState (NetState N) → Type 0
SweptAs b m t (All k) c c' = AreMade b m t k c c'
SweptAs b m t NoMemory c c' = is_short (net_does b) c' ≡ true
