-- Sweeps that were made so far.
use Rattle.std.proofs.Common.{◌≡◌, ℕ, suc, ◌+◌, ◌≤◌, min, Bool, true, false, length, refl, sym, ap, ◌∙◌, subst, inl, inr, arith}
use Rattle.std.proofs.lemmas.Bool.{false≢true}
use Rattle.ff_node.specs.Behaviour.{Behaviour, KeepsKind}
use Rattle.ff_node.specs.Classes.{ClassLaw}
use Rattle.ff_net.specs.Counts.{edges, units}
use Rattle.ff_net.specs.Forms.{has_choice}
use Rattle.ff_net.specs.Good.{Good}
use Rattle.ff_net.specs.Tree.{Tree}
use Rattle.ff_unit.specs.Units.{IsUnit}
use Rattle.ff_steps.specs.Core.{CoreState, all_ended, is_short}
use Rattle.ff_steps.specs.Events.{Follows}
use Rattle.ff_steps.specs.NetCores.{IsGood, opened_net}
use Rattle.ff_steps.specs.NetUnits.{NetState, net_does}
use Rattle.ff_plan.specs.Traffic.{budget}
use Rattle.ff_sweeps.proofs.Potentials.{potential}
use Rattle.ff_sweeps.specs.Schedules.{sweep, sweeps_of}
use Rattle.ff_sweeps.specs.Swept.{AreMade}
use Rattle.ff_sweeps.proofs.Budgets.{bounded}
use Rattle.ff_sweeps.proofs.Joins.{Follows-join, sweeps-snoc}
use Rattle.ff_sweeps.proofs.Opened.{keeps_opened, follows_input}
use Rattle.ff_sweeps.proofs.SweepSteps.{Keeps}
use Rattle.ff_sweeps.proofs.SweepMoves.{sweep_moves, sweeps_move}

abbrev pub raised : {N : Type 0} → Behaviour N → Tree N → CoreState (NetState N) → ℕ
raised b t c = potential b (edges t) (units t + 2) c

pub record SoFar {N : Type 0} (b : Behaviour N) (m : ℕ) (t : Tree N) (k : ℕ) (c c' : CoreState (NetState N)) : Type 0 where
  pub number : ℕ
  pub is : k ≡ min number 18446744073709551615
  pub follows : Follows (net_does b) (IsGood b m t) (sweeps_of (units t) number) c c'
  pub few : number ≤ raised b t c'

pub start : {N : Type 0} (b : Behaviour N) (m : ℕ) (t : Tree N) (c : CoreState (NetState N)) → SoFar b m t 0 c c
start b m t c = record { number = 0; is = refl; follows = refl; few = omega arith }

module _ {N : Type 0} (b : Behaviour N) (kind : KeepsKind b) (law : (o : N) → ClassLaw b o (b.class o)) (laws : IsUnit (net_does b)) (m : ℕ) (keep : Bool) (t : Tree N) (good : Good b t)
    (fixed : has_choice t ≡ false) (c : CoreState (NetState N)) (opened : (cap : ℕ) × (1 ≤ cap) × (c ≡ opened_net b m keep t cap c.input)) where
  inv_start : Keeps b kind laws m keep t (units t) c
  inv_start = subst (Keeps b kind laws m keep t (units t)) (sym opened.2) (keeps_opened b kind law laws m keep t good fixed opened.0 opened.1 c.input)

  module _ (k : ℕ) (d : CoreState (NetState N)) (so_far : SoFar b m t k c d) where
    inv : Keeps b kind laws m keep t (units t) d
    inv = (sweeps_move b kind laws m keep t good fixed (units t) so_far.number c d inv_start so_far.follows).0

    -- it has the units of the plan
    pub units_are : length d.units ≡ units t
    units_are = inv.many

    pub below : raised b t d + 1 ≤ budget b m t c.input
    below =
        let few = bounded b kind law laws m keep t good fixed (units t) d inv in
        let same = follows_input (net_does b) (IsGood b m t) (sweeps_of (units t) so_far.number) c d so_far.follows in
        omega (arith, few, ap (budget b m t) same)

    module _ (next : ℕ) (is_next : next ≡ min (k + 1) 18446744073709551615) (e : CoreState (NetState N)) (one : Follows (net_does b) (IsGood b m t) (sweep (units t)) d e) where
      all : Follows (net_does b) (IsGood b m t) (sweeps_of (units t) (suc so_far.number)) c e
      all = subst (λ ps. Follows (net_does b) (IsGood b m t) ps c e) (sym (sweeps-snoc (units t) so_far.number))
          (Follows-join (net_does b) (IsGood b m t) (sweeps_of (units t) so_far.number) (sweep (units t)) c d e so_far.follows one)

      count : next ≡ min (suc so_far.number) 18446744073709551615
      count = omega (arith, is_next, so_far.is)

      -- all have ended
      pub made : all_ended (net_does b) e ≡ true → AreMade b m t next c e
      made ended = record { number = suc so_far.number; is = count; follows = all; few = omega (arith, below, so_far.few); ended = ended }

      -- or it goes on, and something was raised
      pub raises : all_ended (net_does b) e ≡ false → is_short (net_does b) e ≡ false → raised b t d + 1 ≤ raised b t e
      raises going long = elim (sweep_moves b kind laws m keep t good fixed (units t) d e inv one long).1 [
        | inl more ↦ more
        | inr ended ↦ absurd (false≢true (sym going ∙ ended))
      ]

      pub goes_on : all_ended (net_does b) e ≡ false → is_short (net_does b) e ≡ false → SoFar b m t next c e
      goes_on going long = record { number = suc so_far.number; is = count; follows = all; few = omega (arith, raises going long, so_far.few) }
