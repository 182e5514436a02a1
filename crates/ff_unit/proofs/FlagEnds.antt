-- What the flags of a unit with several ins tell of the ends that it took.
use Rattle.std.proofs.Common.{◌≡◌, ◌⊎◌, ℕ, zero, suc, ◌<◌, Bool, true, false, List, [], ◌∷◌, length, replicate, refl, sym, inl, inr, arith}
use Rattle.std.specs.Prelude.{slice_set}
use Rattle.std.proofs.lemmas.Bool.{false≢true}
use Rattle.ff_rec.specs.Streams.{at, added}
use Rattle.ff_node.specs.Runs.{Message}
use Rattle.ff_unit.specs.Closing.{IsLive, any_live, all_live}
use Rattle.ff_unit.proofs.Rests.{HasEnd}
use Rattle.ff_unit.proofs.HasEnds.{HasEnd-right, HasEnd-either}

-- an in that still gives gave no end, and each other one did
abbrev pub FlagEnds : List Bool → List (List Message) → Type 0
FlagEnds [] [] = Unit {0}
FlagEnds [] (g ∷ gots) = ⊥
FlagEnds (l ∷ live) [] = ⊥
FlagEnds (true ∷ live) (g ∷ gots) = (HasEnd g → ⊥) × FlagEnds live gots
FlagEnds (false ∷ live) (g ∷ gots) = HasEnd g × FlagEnds live gots

pub FlagEnds-start : (n : ℕ) → FlagEnds (all_live n) (replicate n [])
FlagEnds-start zero = tt
FlagEnds-start (suc n) = ((λ h. h), FlagEnds-start n)

pub FlagEnds-item : (live : List Bool) (gots : List (List Message)) (k : ℕ) (m : Message) → FlagEnds live gots → IsLive live k → (HasEnd (m ∷ []) → ⊥) → FlagEnds live (added gots k m)
FlagEnds-item [] gots k m h on inner = absurd (false≢true on)
FlagEnds-item (l ∷ live) [] k m h on inner = absurd h
FlagEnds-item (true ∷ live) (g ∷ gots) zero m h on inner = ((λ e. elim (HasEnd-either g (m ∷ []) e) [ inl before ↦ h.0 before | inr here ↦ inner here ]), h.1)
FlagEnds-item (false ∷ live) (g ∷ gots) zero m h on inner = absurd (false≢true on)
FlagEnds-item (true ∷ live) (g ∷ gots) (suc k) m h on inner = (h.0, FlagEnds-item live gots k m h.1 on inner)
FlagEnds-item (false ∷ live) (g ∷ gots) (suc k) m h on inner = (h.0, FlagEnds-item live gots k m h.1 on inner)

pub FlagEnds-end : (live : List Bool) (gots : List (List Message)) (k : ℕ) (m : Message) → FlagEnds live gots → IsLive live k → HasEnd (m ∷ []) → FlagEnds (slice_set live k false) (added gots k m)
FlagEnds-end [] gots k m h on end = absurd (false≢true on)
FlagEnds-end (l ∷ live) [] k m h on end = absurd h
FlagEnds-end (true ∷ live) (g ∷ gots) zero m h on end = (HasEnd-right g (m ∷ []) end, h.1)
FlagEnds-end (false ∷ live) (g ∷ gots) zero m h on end = absurd (false≢true on)
FlagEnds-end (true ∷ live) (g ∷ gots) (suc k) m h on end = (h.0, FlagEnds-end live gots k m h.1 on end)
FlagEnds-end (false ∷ live) (g ∷ gots) (suc k) m h on end = (h.0, FlagEnds-end live gots k m h.1 on end)

-- what they tell
pub live_or_ended : (live : List Bool) (gots : List (List Message)) (k : ℕ) → FlagEnds live gots → k < length live → IsLive live k ⊎ HasEnd (at gots k)
live_or_ended [] gots k h below = absurd (omega (arith, below))
live_or_ended (l ∷ live) [] k h below = absurd h
live_or_ended (true ∷ live) (g ∷ gots) zero h below = inl refl
live_or_ended (false ∷ live) (g ∷ gots) zero h below = inr h.0
live_or_ended (true ∷ live) (g ∷ gots) (suc k) h below = live_or_ended live gots k h.1 (omega (arith, below))
live_or_ended (false ∷ live) (g ∷ gots) (suc k) h below = live_or_ended live gots k h.1 (omega (arith, below))

pub none_ended : (live : List Bool) (gots : List (List Message)) (k : ℕ) → FlagEnds live gots → any_live live ≡ false → k < length live → HasEnd (at gots k)
none_ended [] gots k h none below = absurd (omega (arith, below))
none_ended (l ∷ live) [] k h none below = absurd h
none_ended (true ∷ live) (g ∷ gots) k h none below = absurd (false≢true (sym none))
none_ended (false ∷ live) (g ∷ gots) zero h none below = h.0
none_ended (false ∷ live) (g ∷ gots) (suc k) h none below = none_ended live gots k h.1 none (omega (arith, below))

pub live_open : (live : List Bool) (gots : List (List Message)) (k : ℕ) → FlagEnds live gots → IsLive live k → HasEnd (at gots k) → ⊥
live_open [] gots k h on end = false≢true on
live_open (l ∷ live) [] k h on end = h
live_open (true ∷ live) (g ∷ gots) zero h on end = h.0 end
live_open (false ∷ live) (g ∷ gots) zero h on end = false≢true on
live_open (true ∷ live) (g ∷ gots) (suc k) h on end = live_open live gots k h.1 on end
live_open (false ∷ live) (g ∷ gots) (suc k) h on end = live_open live gots k h.1 on end

pub all_ended-none : (live : List Bool) (gots : List (List Message)) → FlagEnds live gots → ((k : ℕ) → k < length live → HasEnd (at gots k)) → any_live live ≡ false
all_ended-none [] gots h each = refl
all_ended-none (l ∷ live) [] h each = absurd h
all_ended-none (true ∷ live) (g ∷ gots) h each = absurd (h.0 (each 0 (omega arith)))
all_ended-none (false ∷ live) (g ∷ gots) h each = all_ended-none live gots h.1 (λ k below. each (suc k) (omega (arith, below)))
