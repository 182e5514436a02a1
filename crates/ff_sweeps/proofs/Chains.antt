-- What events keep, one after another.
use Rattle.std.proofs.Common.{◌≡◌, ◌≢◌, ℕ, zero, suc, ◌+◌, ◌<◌, ◌≤◌, Bool, true, false, ◌||◌, ◌&&◌, List, [], ◌∷◌, ◌++◌, length, map, slice_index_or, refl, sym, ap, ◌∙◌, subst, inl, inr, arith}
use Rattle.std.specs.List.{list_any, list_all}
use Rattle.std.proofs.lemmas.Bool.{false≢true, and_parts}
use Rattle.std.proofs.lemmas.Bool.Decides.{eqb_tells}
use Rattle.ff_rec.specs.declared.msg.Msg.TheVariants.{Item, Mark, Pick, Eos, Abort}
use Rattle.ff_node.specs.Behaviour.{Behaviour, KeepsKind}
use Rattle.ff_node.specs.Runs.{Act, Took, Gave, Refused, Idle, Told, Handed}
use Rattle.ff_net.specs.Tree.{Tree}
use Rattle.ff_unit.specs.Units.{Doing, IsUnit, told_by}
use Rattle.ff_steps.specs.Core.{CoreState, party, gots_of, puts_of, IsSound, is_cut_off, is_short, all_ended}
use Rattle.ff_steps.specs.Events.{CoreStep, Stalls}
use Rattle.ff_steps.specs.NetUnits.{NetState, net_does, NetStep}
use Rattle.ff_steps.specs.Parties.{Party, Feeder, Drainer, AsUnit, AsFeeder, AsDrainer, PartyStep, FeederStep, DrainerStep, has_ended}
use Rattle.ff_steps.proofs.PartyAt.{length-parties, party-unit, party-feeder, party-drainer}
use Rattle.ff_sweeps.proofs.Potentials.{IsPlainParty}
use Rattle.ff_sweeps.proofs.CoreStuck.{all_done}
use Rattle.ff_sweeps.proofs.SweepSteps.{Keeps, ran_of, or-true, or-left, or-right, any-at}
use Rattle.ff_sweeps.proofs.UnitSteps.{IsCoreAct, ended_still, plain_stays}

-- which element is so
find-any : {A : Type 0} (f : A → Bool) (xs : List A) → list_any f xs ≡ true → (i : ℕ) × (i < length xs) × ((d : A) → f (slice_index_or xs i d) ≡ true)
find-any f [] is = absurd (false≢true is)
find-any f (x ∷ xs) is = elim (or-true (f x) (list_any f xs) is) [
  | inl here ↦ (0, omega arith, λ d. here)
  | inr later ↦ let found = find-any f xs later in (suc found.0, omega (arith, found.1), λ d. found.2 d)
]

-- a feeder and a drainer keep what they were refused, and their ends
feeder_refused : (f g : Feeder) (act : Act) → FeederStep f act g → f.refused ≡ true → g.refused ≡ true
feeder_refused f g (Took k m) s is = absurd s
feeder_refused f g (Gave k (Item x)) s is = absurd (false≢true (sym s.2.0 ∙ is))
feeder_refused f g (Gave k Mark) s is = absurd s.2
feeder_refused f g (Gave k (Pick w)) s is = absurd s.2
feeder_refused f g (Gave k Eos) s is = absurd (false≢true (sym s.2.0 ∙ is))
feeder_refused f g (Gave k Abort) s is = ap (λ (x : Feeder). x.refused) s.2.1 ∙ is
feeder_refused f g Refused s is = ap (λ (x : Feeder). x.refused) s.2
feeder_refused f g Idle s is = ap (λ (x : Feeder). x.refused) s ∙ is
feeder_refused f g Told s is = absurd s
feeder_refused f g (Handed x) s is = absurd s

feeder_done : (f g : Feeder) (act : Act) → FeederStep f act g → f.done ≡ true → g.done ≡ true
feeder_done f g (Took k m) s is = absurd s
feeder_done f g (Gave k m) s is = absurd (false≢true (sym s.1 ∙ is))
feeder_done f g Refused s is = absurd (false≢true (sym s.0 ∙ is))
feeder_done f g Idle s is = ap (λ (x : Feeder). x.done) s ∙ is
feeder_done f g Told s is = absurd s
feeder_done f g (Handed x) s is = absurd s

drainer_refused : (d e : Drainer) (act : Act) → DrainerStep d act e → d.refused ≡ true → e.refused ≡ true
drainer_refused d e (Took k (Item x)) s is = elim s.2 [ inl h ↦ absurd (false≢true (sym h.0 ∙ is)) | inr h ↦ ap (λ (y : Drainer). y.refused) h ]
drainer_refused d e (Took k Mark) s is = ap (λ (y : Drainer). y.refused) s.2 ∙ is
drainer_refused d e (Took k (Pick w)) s is = ap (λ (y : Drainer). y.refused) s.2 ∙ is
drainer_refused d e (Took k Eos) s is = ap (λ (y : Drainer). y.refused) s.2 ∙ is
drainer_refused d e (Took k Abort) s is = ap (λ (y : Drainer). y.refused) s.2 ∙ is
drainer_refused d e (Gave k m) s is = absurd s
drainer_refused d e Refused s is = absurd s
drainer_refused d e Idle s is = ap (λ (y : Drainer). y.refused) s ∙ is
drainer_refused d e Told s is = absurd s
drainer_refused d e (Handed x) s is = absurd s

drainer_done : (d e : Drainer) (act : Act) → DrainerStep d act e → d.done ≡ true → e.done ≡ true
drainer_done d e (Took k m) s is = absurd (false≢true (sym s.1 ∙ is))
drainer_done d e (Gave k m) s is = absurd s
drainer_done d e Refused s is = absurd s
drainer_done d e Idle s is = ap (λ (x : Drainer). x.done) s ∙ is
drainer_done d e Told s is = absurd s
drainer_done d e (Handed x) s is = absurd s

-- where all have ended each has
ended-at : {U : Type 0} (d : Doing U) (us : List U) (f : Feeder) (e : Drainer) → list_all (has_ended d) (map (λ u. AsUnit u) us ++ AsFeeder f ∷ AsDrainer e ∷ []) ≡ true
    → ((i : ℕ) (u : U) → i < length us → d.done (slice_index_or us i u) ≡ true) × ((f.done ≡ true) × (e.done ≡ true))
ended-at d [] f e is =
    let first : (f.done ≡ true) × ((e.done && true) ≡ true) = and_parts f.done (e.done && true) is in
    ((λ i u low. absurd (omega (arith, low))), (first.0, (and_parts e.done true first.1).0))
ended-at d (u ∷ us) f e is =
    let rest_of : Bool = list_all (has_ended d) (map (λ w. AsUnit w) us ++ AsFeeder f ∷ AsDrainer e ∷ []) in
    let first : (d.done u ≡ true) × (rest_of ≡ true) = and_parts (d.done u) rest_of is in
    let rest = ended-at d us f e first.1 in
    (each first.0 rest.0, rest.1)
  where
    each : d.done u ≡ true → ((i : ℕ) (w : _) → i < length us → d.done (slice_index_or us i w) ≡ true) → (i : ℕ) (w : _) → i < suc (length us) → d.done (slice_index_or (u ∷ us) i w) ≡ true
    each here later zero w low = here
    each here later (suc i) w low = later i w (omega (arith, low))

module _ {N : Type 0} (b : Behaviour N) (kind : KeepsKind b) (laws : IsUnit (net_does b)) (m : ℕ) (keep : Bool) (t : Tree N) (count : ℕ)
    (c c' : CoreState (NetState N)) (p : ℕ) (inv : Keeps b kind laws m keep t count c) (sound' : IsSound (net_does b) c') (low : p < count + 2) (step : CoreStep (net_does b) p c c') where
  many' : length c'.units ≡ count
  many' = step.number ∙ inv.many

  others : (q : ℕ) → q < count + 2 → q ≢ p → party c' q ≡ party c q
  others q below other = step.others q (omega (arith, below, length-parties c, inv.many)) other

  core : IsCoreAct step.act
  core = by (party c p) (party c' p) step.act step.stalls
    where
      by : (q r : Party (NetState N)) (act : Act) → Stalls (net_does b) c c' p q r act → IsCoreAct act
      by q r (Took k msg) s = tt
      by q r (Gave k msg) s = tt
      by q r Refused s = tt
      by q r Idle s = tt
      by q r Told s = s
      by q r (Handed x) s = s

  unit-at : (d : CoreState (NetState N)) → length d.units ≡ count → (i : ℕ) (u : NetState N) → i < count → party d i ≡ AsUnit (slice_index_or d.units i u)
  unit-at d many i u below = party-unit d i u (omega (arith, below, many))

  -- a unit steps, or stays
  unit_after : (P : NetState N → Type 0) (i : ℕ) (u w : NetState N) → i < count → P (slice_index_or c.units i u)
      → ((x y : NetState N) → party c p ≡ AsUnit x → NetStep b x step.act y → P x → P y) → P (slice_index_or c'.units i w)
  unit_after P i u w below here steps = elim (eqb_tells i p) [
    | inl h ↦
        let x = slice_index_or c.units i u in
        let y = slice_index_or c'.units i w in
        let was : party c p ≡ AsUnit x = ap (party c) (sym h.1) ∙ unit-at c inv.many i u below in
        let now : party c' p ≡ AsUnit y = ap (party c') (sym h.1) ∙ unit-at c' many' i w below in
        let s : NetStep b x step.act y = subst (λ (q : Party (NetState N)). PartyStep (net_does b) q step.act (AsUnit y)) was (subst (λ (r : Party (NetState N)). PartyStep (net_does b) (party c p) step.act r) now step.steps) in
        steps x y was s here
    | inr h ↦
        let same : AsUnit (slice_index_or c'.units i w) ≡ AsUnit (slice_index_or c.units i u) =
        sym (unit-at c' many' i w below) ∙ others i (omega (arith, below)) h.1 ∙ unit-at c inv.many i u below in
        let one : slice_index_or c'.units i w ≡ slice_index_or c.units i u = cc in
        subst P (sym one) here
  ]

  feeder_after : (P : Feeder → Type 0) → P c.feeder → ((g : Feeder) → FeederStep c.feeder step.act g → P c.feeder → P g) → P c'.feeder
  feeder_after P here steps = elim (eqb_tells count p) [
    | inl h ↦
        let was : party c p ≡ AsFeeder c.feeder = ap (party c) (sym h.1) ∙ party-feeder c count inv.many in
        let now : party c' p ≡ AsFeeder c'.feeder = ap (party c') (sym h.1) ∙ party-feeder c' count many' in
        steps c'.feeder (subst (λ (q : Party (NetState N)). PartyStep (net_does b) q step.act (AsFeeder c'.feeder)) was (subst (λ (r : Party (NetState N)). PartyStep (net_does b) (party c p) step.act r) now step.steps)) here
    | inr h ↦
        let same : AsFeeder c'.feeder ≡ AsFeeder c.feeder = sym (party-feeder c' count many') ∙ others count (omega arith) h.1 ∙ party-feeder c count inv.many in
        let one : c'.feeder ≡ c.feeder = cc in
        subst P (sym one) here
  ]

  drainer_after : (P : Drainer → Type 0) → P c.drainer → ((g : Drainer) → DrainerStep c.drainer step.act g → P c.drainer → P g) → P c'.drainer
  drainer_after P here steps = elim (eqb_tells (suc count) p) [
    | inl h ↦
        let was : party c p ≡ AsDrainer c.drainer = ap (party c) (sym h.1) ∙ party-drainer c count inv.many in
        let now : party c' p ≡ AsDrainer c'.drainer = ap (party c') (sym h.1) ∙ party-drainer c' count many' in
        steps c'.drainer (subst (λ (q : Party (NetState N)). PartyStep (net_does b) q step.act (AsDrainer c'.drainer)) was (subst (λ (r : Party (NetState N)). PartyStep (net_does b) (party c p) step.act r) now step.steps)) here
    | inr h ↦
        let same : AsDrainer c'.drainer ≡ AsDrainer c.drainer = sym (party-drainer c' count many') ∙ others (suc count) (omega arith) h.1 ∙ party-drainer c count inv.many in
        let one : c'.drainer ≡ c.drainer = cc in
        subst P (sym one) here
  ]

  -- what each moment keeps
  told_after : (act : Act) → IsCoreAct act → (told : Bool) → told_by act told ≡ told
  told_after (Took k msg) of_core told = refl
  told_after (Gave k msg) of_core told = refl
  told_after Refused of_core told = refl
  told_after Idle of_core told = refl
  told_after Told of_core told = absurd of_core
  told_after (Handed x) of_core told = absurd of_core

  plain_after : (q : ℕ) → q < count + 2 → IsPlainParty (party c' q)
  plain_after q below = elim (eqb_tells q p) [
    | inl h ↦ subst (λ x. IsPlainParty (party c' x)) (sym h.1) (by (party c p) (party c' p) step.steps (inv.plain p low))
    | inr h ↦ subst IsPlainParty (sym (others q below h.1)) (inv.plain q below)
  ]
    where
      by : (x y : Party (NetState N)) → PartyStep (net_does b) x step.act y → IsPlainParty x → IsPlainParty y
      by (AsUnit u) (AsUnit w) s plain = plain_stays b u step.act w plain s
      by (AsUnit u) (AsFeeder g) s plain = tt
      by (AsUnit u) (AsDrainer e) s plain = tt
      by (AsFeeder f) (AsUnit w) s plain = absurd s
      by (AsFeeder f) (AsFeeder g) s plain = tt
      by (AsFeeder f) (AsDrainer e) s plain = tt
      by (AsDrainer d) (AsUnit w) s plain = absurd s
      by (AsDrainer d) (AsFeeder g) s plain = tt
      by (AsDrainer d) (AsDrainer e) s plain = tt

  pub keeps_after : Keeps b kind laws m keep t count c'
  keeps_after = record {
    is = record { made = step.made.0 ∙ inv.is.made; rows = step.made.2 ∙ inv.is.rows };
    sound = sound';
    run = record {
      many = step.edges.number ∙ inv.run.many;
      caps = λ e below. subst (λ k. 1 ≤ k) (sym (step.edges.caps e)) (inv.run.caps e below);
      untold = λ i u below.
          let lower : i < count = omega (arith, below, many') in
          unit_after (λ x. (net_does b).told x ≡ false) i u u lower (inv.run.untold i u (omega (arith, lower, inv.many)))
          (λ x y was s here. laws.told_kept x step.act y s ∙ told_after step.act core ((net_does b).told x) ∙ here);
    };
    plain = plain_after;
    many = many';
  }

  -- a unit that has ended stays as it is
  ended_after : (x y : NetState N) → party c p ≡ AsUnit x → NetStep b x step.act y → (net_does b).done x ≡ true → y ≡ x
  ended_after x y was s done =
      let ran = ran_of b kind laws m keep t count c inv p x low was in
      ended_still b x (gots_of c p) (puts_of c p) step.act y (subst IsPlainParty was (inv.plain p low)) (laws.ready x (gots_of c p) (puts_of c p) ran) done core s

  -- so what is short stays short, and what has ended stays ended
  pub short_stays : is_short (net_does b) c ≡ true → is_short (net_does b) c' ≡ true
  short_stays short =
      let f : NetState N → Bool = λ w. (net_does b).done w && is_cut_off ((net_does b).fin w) in
      elim (or-true (list_any f c.units) (c.feeder.refused || c.drainer.refused) short) [
        | inl some ↦
            let found = find-any f c.units some in
            let below : found.0 < count = omega (arith, found.1, inv.many) in
            or-left (list_any f c'.units) (c'.feeder.refused || c'.drainer.refused)
            (any_after f found.0 found.1 below c.units refl (λ d. found.2 d))
        | inr refused ↦ or-right (list_any f c'.units) (c'.feeder.refused || c'.drainer.refused) (elim (or-true c.feeder.refused c.drainer.refused refused) [
          | inl one ↦ or-left c'.feeder.refused c'.drainer.refused (feeder_after (λ x. x.refused ≡ true) one (λ g s h. feeder_refused c.feeder g step.act s h))
          | inr two ↦ or-right c'.feeder.refused c'.drainer.refused (drainer_after (λ x. x.refused ≡ true) two (λ g s h. drainer_refused c.drainer g step.act s h))
        ])
      ]
    where
      any_after : (f : NetState N → Bool) (i : ℕ) → i < length c.units → i < count → (us : List (NetState N)) → c.units ≡ us
          → ((d : NetState N) → ((net_does b).done (slice_index_or c.units i d) && is_cut_off ((net_does b).fin (slice_index_or c.units i d))) ≡ true)
          → list_any (λ w. (net_does b).done w && is_cut_off ((net_does b).fin w)) c'.units ≡ true
      any_after f i i_low below [] is each = absurd (omega (arith, i_low, ap length is))
      any_after f i i_low below (u ∷ us) is each =
          let g : NetState N → Bool = λ w. (net_does b).done w && is_cut_off ((net_does b).fin w) in
          any-at g c'.units i u (omega (arith, below, many'))
          (unit_after (λ x. g x ≡ true) i u u below (each u) (λ x y was s h.
          subst (λ z. g z ≡ true) (sym (ended_after x y was s (and_parts ((net_does b).done x) (is_cut_off ((net_does b).fin x)) h).0)) h))

  pub all_ended_stays : all_ended (net_does b) c ≡ true → all_ended (net_does b) c' ≡ true
  all_ended_stays ended =
      let parts = ended-at (net_does b) c.units c.feeder c.drainer ended in
      all_done (net_does b) c'.units c'.feeder c'.drainer
      (λ i u below.
      let lower : i < count = omega (arith, below, many') in
      unit_after (λ x. (net_does b).done x ≡ true) i u u lower (parts.0 i u (omega (arith, lower, inv.many))) (λ x y was s h. ap (net_does b).done (ended_after x y was s h) ∙ h))
      (feeder_after (λ x. x.done ≡ true) parts.1.0 (λ g s h. feeder_done c.feeder g step.act s h))
      (drainer_after (λ x. x.done ≡ true) parts.1.1 (λ g s h. drainer_done c.drainer g step.act s h))
