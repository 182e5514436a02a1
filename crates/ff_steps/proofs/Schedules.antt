-- What a schedule makes of a core, one event after the other.
use Rattle.std.proofs.Common.{◌≡◌, ℕ, ◌+◌, ◌<◌, List, [], ◌∷◌, ◌++◌, length, take, get_or, refl, sym, ap, ◌∙◌, subst, inl, inr}
use Rattle.std.proofs.lemmas.List.{take_more}
use Rattle.std.specs.List.{flat_map}
use Rattle.std.proofs.Common.{map}
use Rattle.ff_node.specs.Runs.{Act, Took, Gave, Refused, Idle, Told, Handed}
use Rattle.ff_unit.specs.Units.{Doing, IsUnit}
use Rattle.ff_steps.specs.Core.{CoreState, party, taken_rejects}
use Rattle.ff_steps.specs.Events.{Event, Follows, Stalls}
use Rattle.ff_steps.specs.Parties.{Party}
use Rattle.ff_steps.proofs.SoundStep.{map-units_step}

-- two cores of the same units, input and rows
abbrev pub MadeOfSame : {U : Type 0} → CoreState U → CoreState U → Type 0
MadeOfSame c c' = (c'.made ≡ c.made) × (c'.input ≡ c.input) × (c'.rows ≡ c.rows)

module _ {U : Type 0} (b : Doing U) where
  module _ (Good : CoreState U → Type 0) where
    -- one event more
    pub Follows-snoc : (ps : List ℕ) (p : ℕ) (c d e : CoreState U) → Follows b Good ps c d → Event b p d e → Good e → Follows b Good (ps ++ p ∷ []) c e
    Follows-snoc [] p c d e f event good = (e, subst (λ x. Event b p x e) f event, good, refl)
    Follows-snoc (q ∷ ps) p c d e f event good = (f.0, f.1, f.2, Follows-snoc ps p f.0 d e f.3 event good)

    -- counted at an index of the schedule
    pub Follows-more : (ps : List ℕ) (i : ℕ) (c d e : CoreState U) → i < length ps → Follows b Good (take i ps) c d → Event b (get_or ps i 0) d e → Good e
        → Follows b Good (take (i + 1) ps) c e
    Follows-more ps i c d e low f event good = subst (λ qs. Follows b Good qs c e) (sym (take_more ps i 0 low)) (Follows-snoc (take i ps) (get_or ps i 0) c d e f event good)

  -- an event keeps what the core was made of
  pub made-event : (p : ℕ) (c c' : CoreState U) → Event b p c c' → MadeOfSame c c'
  made-event p c c' (inl e) = e.1.made
  made-event p c c' (inr e) = (ap (λ x. x.made) e.1, ap (λ x. x.input) e.1, ap (λ x. x.rows) e.1)

  -- so does a schedule
  pub made-follows : (Good : CoreState U → Type 0) (ps : List ℕ) (c d : CoreState U) → Follows b Good ps c d → MadeOfSame c d
  made-follows Good [] c d f = (ap (λ x. x.made) f, ap (λ x. x.input) f, ap (λ x. x.rows) f)
  made-follows Good (p ∷ ps) c d f =
      let m : MadeOfSame c f.0 = made-event p c f.0 f.1 in
      let n : MadeOfSame f.0 d = made-follows Good ps f.0 d f.3 in
      (n.0 ∙ m.0, n.1 ∙ m.1, n.2 ∙ m.2)

  -- an event takes no reject out
  taken-kept : (laws : IsUnit b) (act : Act) (c c' : CoreState U) (p : ℕ) (q r : Party U) → Stalls b c c' p q r act → (u v : U) → b.Steps u act v → b.taken v ≡ b.taken u
  taken-kept laws (Took k m) c c' p q r h u v s = laws.taken_kept u (Took k m) v s
  taken-kept laws (Gave k m) c c' p q r h u v s = laws.taken_kept u (Gave k m) v s
  taken-kept laws Refused c c' p q r h u v s = laws.taken_kept u Refused v s
  taken-kept laws Idle c c' p q r h u v s = laws.taken_kept u Idle v s
  taken-kept laws Told c c' p q r h u v s = absurd h
  taken-kept laws (Handed x) c c' p q r h u v s = absurd h

  flat_map-by : {A : Type 0} (f : U → List A) (us : List U) → flat_map f us ≡ flat_map (λ l. l) (map f us)
  flat_map-by f [] = refl
  flat_map-by f (u ∷ us) = ap (λ l. f u ++ l) (flat_map-by f us)

  pub taken_rejects-event : IsUnit b → (p : ℕ) (c c' : CoreState U) → Event b p c c' → taken_rejects b c' ≡ taken_rejects b c
  taken_rejects-event laws p c c' (inl e) =
      flat_map-by b.taken c'.units
      ∙ ap (flat_map (λ l. l)) (map-units_step b b.taken p c c' e.1 (taken-kept laws e.1.act c c' p (party c p) (party c' p) e.1.stalls))
      ∙ sym (flat_map-by b.taken c.units)
  taken_rejects-event laws p c c' (inr e) = ap (λ x. taken_rejects b x) e.1

  -- nor does a schedule
  pub taken_rejects-follows : IsUnit b → (Good : CoreState U → Type 0) (ps : List ℕ) (c d : CoreState U) → Follows b Good ps c d → taken_rejects b d ≡ taken_rejects b c
  taken_rejects-follows laws Good [] c d f = ap (λ x. taken_rejects b x) f
  taken_rejects-follows laws Good (p ∷ ps) c d f = taken_rejects-follows laws Good ps f.0 d f.3 ∙ taken_rejects-event laws p c f.0 f.1

  -- what is good of each moment by what is good of it besides, as long as the core was made so
  pub Follows-good : (Made Good Better : CoreState U → Type 0) → ((c c' : CoreState U) → MadeOfSame c c' → Made c → Made c') → ((c : CoreState U) → Made c → Good c → Better c)
      → (ps : List ℕ) (c d : CoreState U) → Made c → Follows b Good ps c d → Follows b Better ps c d
  Follows-good Made Good Better stays gives [] c d made f = f
  Follows-good Made Good Better stays gives (p ∷ ps) c d made f =
      let next : Made f.0 = stays c f.0 (made-event p c f.0 f.1) made in
      (f.0, f.1, gives f.0 next f.2, Follows-good Made Good Better stays gives ps f.0 d next f.3)
