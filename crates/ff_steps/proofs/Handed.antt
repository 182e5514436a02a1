-- A reject that is taken out keeps a sound core.
use Rattle.std.proofs.Common.{◌≡◌, inl, inr, ℕ, ◌+◌, ◌<◌, List, [], ◌∷◌, ◌++◌, length, map, Option, None, Some, slice_index_or, slice_set, refl, sym, ap, ◌∙◌, subst, length-set, get_or-set_same}
use Rattle.std.proofs.Math.Seq.{map-set_same}
use Rattle.std.proofs.lemmas.Bool.{cases_eq}
use Rattle.ff_rec.specs.Lines.{Rec}
use Rattle.ff_node.specs.Runs.{Handed}
use Rattle.ff_unit.specs.Units.{Doing, IsUnit}
use Rattle.ff_steps.specs.Core.{CoreState, parties, party, gots_of, puts_of, IsSound}
use Rattle.ff_steps.specs.Parties.{AsUnit, AsFeeder, AsDrainer, PartyStep, PartyRan}
use Rattle.ff_steps.specs.Rejects.{HandsFirst, Hands, NoneBelow}
use Rattle.ff_steps.proofs.CoreSteps.{PartyStep-at}
use Rattle.ff_steps.proofs.Others.{others-unit}
use Rattle.ff_steps.proofs.PartyAt.{length-parties, party-unit}
use Rattle.ff_steps.proofs.PartyRuns.{PartyRan-step}

module _ {U : Type 0} (b : Doing U) (laws : IsUnit b) (c : CoreState U) (x : Rec) (units' : List U) (hands : HandsFirst b c.units x units') where
  -- the core behind it
  abbrev c' : CoreState U
  c' = record c { units = units' }

  -- the number of parties
  same_length : length (parties c') ≡ length (parties c)
  same_length = length-parties c' ∙ ap (λ n. n + 2) (ap length hands.is ∙ length-set c.units hands.p hands.new) ∙ sym (length-parties c)

  -- the unit makes the step
  handed : PartyStep b (party c hands.p) (Handed x) (party c' hands.p)
  handed = PartyStep-at b (Handed x)
      (party-unit c hands.p hands.old hands.within ∙ ap (λ u. AsUnit u) (sym hands.was))
      (party-unit c' hands.p hands.new (subst (λ us. hands.p < length us) (sym hands.is) (subst (λ n. hands.p < n) (sym (length-set c.units hands.p hands.new)) hands.within))
      ∙ ap (λ u. AsUnit u) (ap (λ us. slice_index_or us hands.p hands.new) hands.is ∙ get_or-set_same c.units hands.p hands.new hands.new hands.within))
      hands.hands

  -- what each unit was before its first step
  pub made-handed : map b.opening units' ≡ map b.opening c.units
  made-handed = ap (map b.opening) hands.is
      ∙ map-set_same b.opening c.units hands.p hands.new hands.old (laws.opening_kept hands.old (Handed x) hands.new hands.hands ∙ ap b.opening hands.was)

  pub IsSound-handed : IsSound b c → IsSound b (record c { units = units' })
  IsSound-handed sound = record {
    wired = sound.wired;
    made_of = made-handed ∙ sound.made_of;
    rows_are = sound.rows_are ∙ sym same_length;
    ran = λ q low. ran q (subst (λ n. q < n) same_length low);
  }
    where
      ran : (q : ℕ) → q < length (parties c) → PartyRan b c.input (party c' q) (gots_of c q) (puts_of c q)
      ran q low = elim (cases_eq q hands.p) [
        | inl e ↦ subst (λ n. PartyRan b c.input (party c' n) (gots_of c n) (puts_of c n)) (sym e)
            (PartyRan-step b laws c.input (party c hands.p) (gots_of c hands.p) (puts_of c hands.p) (Handed x) (party c' hands.p)
            (gots_of c hands.p) (puts_of c hands.p) (sound.ran hands.p (subst (λ n. n < length (parties c)) e low)) handed refl refl)
        | inr ne ↦ subst (λ r. PartyRan b c.input r (gots_of c q) (puts_of c q))
            (sym (ap (λ us. slice_index_or (map (λ u. AsUnit u) us ++ AsFeeder c.feeder ∷ AsDrainer c.drainer ∷ []) q (AsDrainer c.drainer)) hands.is
            ∙ others-unit c.units (AsFeeder c.feeder ∷ AsDrainer c.drainer ∷ []) hands.p q hands.new (AsDrainer c.drainer) ne)) (sound.ran q low)
      ]

module _ {U : Type 0} (b : Doing U) (laws : IsUnit b) where
  -- whatever was answered
  pub IsSound-hands : (c : CoreState U) (r : Option Rec) (units' : List U) → Hands b c.units r units' → IsSound b c → IsSound b (record c { units = units' })
  IsSound-hands c None units' hands sound = subst (λ us. IsSound b (record c { units = us })) (sym hands.1) sound
  IsSound-hands c (Some x) units' hands sound = IsSound-handed b laws c x units' hands sound

  pub made-hands : (us : List U) (r : Option Rec) (us' : List U) → (c : CoreState U) → c.units ≡ us → Hands b us r us' → map b.opening us' ≡ map b.opening us
  made-hands us None us' c are hands = ap (map b.opening) hands.1
  made-hands us (Some x) us' c are hands = made-handed b laws (record c { units = us }) x us' hands

  -- as many units as before
  pub length-hands : (us : List U) (r : Option Rec) (us' : List U) → Hands b us r us' → length us' ≡ length us
  length-hands us None us' hands = ap length hands.1
  length-hands us (Some x) us' hands = ap length hands.is ∙ length-set us hands.p hands.new

-- the unit at this place, in a list that is the old one
pub HandsFirst-at : {U : Type 0} (b : Doing U) (us us' : List U) (p : ℕ) (u v : U) (x : Rec) → us' ≡ us → p < length us → NoneBelow b us p
    → u ≡ slice_index_or us' p u → b.Steps u (Handed x) v × (b.kept u ≡ x ∷ b.kept v) → HandsFirst b us x (slice_set us' p v)
HandsFirst-at b us us' p u v x same within below was hands = record {
  p = p;
  within = within;
  below = below;
  old = u;
  new = v;
  was = was ∙ ap (λ xs. slice_index_or xs p u) same;
  hands = hands.0;
  held = hands.1;
  is = ap (λ xs. slice_set xs p v) same;
}
