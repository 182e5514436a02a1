-- A party stays what it is, and its run goes on with each of its steps.
use Rattle.std.proofs.Common.{◌≡◌, List, ◌∷◌, refl, sym, ap, ◌∙◌, subst}
use Rattle.ff_rec.specs.Lines.{Rec}
use Rattle.ff_node.specs.Runs.{Message, Act, took, gave}
use Rattle.ff_unit.specs.Units.{Doing, IsUnit}
use Rattle.ff_unit.proofs.UnitRuns.{Ran-act}
use Rattle.ff_steps.specs.Parties.{Party, AsUnit, AsFeeder, AsDrainer, PartyStep, PartyRan}

-- the unit of a party, or `u`
abbrev pub unit_or : {U : Type 0} → U → Party U → U
unit_or u (AsUnit v) = v
unit_or u (AsFeeder f) = u
unit_or u (AsDrainer d) = u

pub AsUnit-same : {U : Type 0} {u v : U} → AsUnit u ≡ AsUnit v → u ≡ v
AsUnit-same {U} {u} {v} e = ap (unit_or u) e

module _ {U : Type 0} (b : Doing U) where
  -- a step of a party that keeps what `f` tells of a unit
  pub unit_or-step : {A : Type 0} (f : U → A) (act : Act) → ((u v : U) → b.Steps u act v → f v ≡ f u) → (u : U) (q r : Party U) → PartyStep b q act r → f (unit_or u r) ≡ f (unit_or u q)
  unit_or-step f act keeps u (AsUnit x) (AsUnit y) step = keeps x y step
  unit_or-step f act keeps u (AsUnit x) (AsFeeder g) step = absurd step
  unit_or-step f act keeps u (AsUnit x) (AsDrainer e) step = absurd step
  unit_or-step f act keeps u (AsFeeder g) (AsUnit y) step = absurd step
  unit_or-step f act keeps u (AsFeeder g) (AsFeeder h) step = refl
  unit_or-step f act keeps u (AsFeeder g) (AsDrainer e) step = absurd step
  unit_or-step f act keeps u (AsDrainer d) (AsUnit y) step = absurd step
  unit_or-step f act keeps u (AsDrainer d) (AsFeeder h) step = absurd step
  unit_or-step f act keeps u (AsDrainer d) (AsDrainer e) step = refl

  -- one step more
  pub PartyRan-step : IsUnit b → (input : List Rec) (q : Party U) (gots puts : List (List Message)) (act : Act) (r : Party U) (gots' puts' : List (List Message))
      → PartyRan b input q gots puts → PartyStep b q act r → gots' ≡ took act gots → puts' ≡ gave act puts → PartyRan b input r gots' puts'
  PartyRan-step laws input (AsUnit u) gots puts act (AsUnit v) gots' puts' ran step takes gives = Ran-act b laws u gots puts act v gots' puts' ran step takes gives
  PartyRan-step laws input (AsUnit u) gots puts act (AsFeeder g) gots' puts' ran step takes gives = absurd step
  PartyRan-step laws input (AsUnit u) gots puts act (AsDrainer e) gots' puts' ran step takes gives = absurd step
  PartyRan-step laws input (AsFeeder f) gots puts act (AsUnit v) gots' puts' ran step takes gives = absurd step
  PartyRan-step laws input (AsFeeder f) gots puts act (AsFeeder g) gots' puts' ran step takes gives = record {
    acts = act ∷ ran.acts;
    leads = (f, ran.leads, step);
    takes = takes ∙ ap (took act) ran.takes;
    gives = gives ∙ ap (gave act) ran.gives;
  }
  PartyRan-step laws input (AsFeeder f) gots puts act (AsDrainer e) gots' puts' ran step takes gives = absurd step
  PartyRan-step laws input (AsDrainer d) gots puts act (AsUnit v) gots' puts' ran step takes gives = absurd step
  PartyRan-step laws input (AsDrainer d) gots puts act (AsFeeder g) gots' puts' ran step takes gives = absurd step
  PartyRan-step laws input (AsDrainer d) gots puts act (AsDrainer e) gots' puts' ran step takes gives = record {
    acts = act ∷ ran.acts;
    leads = (d, ran.leads, step);
    takes = takes ∙ ap (took act) ran.takes;
    gives = gives ∙ ap (gave act) ran.gives;
  }

  -- of a party that took and put the same
  pub PartyRan-same : (input input' : List Rec) (q q' : Party U) (gots gots' puts puts' : List (List Message))
      → input' ≡ input → q' ≡ q → gots' ≡ gots → puts' ≡ puts → PartyRan b input q gots puts → PartyRan b input' q' gots' puts'
  PartyRan-same input input' q q' gots gots' puts puts' ei eq eg ep ran =
      let r1 : PartyRan b input' q gots puts = subst (λ i. PartyRan b i q gots puts) (sym ei) ran in
      let r2 : PartyRan b input' q' gots puts = subst (λ x. PartyRan b input' x gots puts) (sym eq) r1 in
      let r3 : PartyRan b input' q' gots' puts = subst (λ g. PartyRan b input' q' g puts) (sym eg) r2 in
      subst (λ p. PartyRan b input' q' gots' p) (sym ep) r3
