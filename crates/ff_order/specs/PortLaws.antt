-- How lists go on at the ports of a unit with several ins, and what its flags tell of them.
use Rattle.std.proofs.Common.{◌≡◌, ℕ, zero, suc, ◌<◌, Bool, true, false, List, [], ◌∷◌, ◌++◌, length, map, refl, sym, ap, ◌∙◌, append_assoc, append-nil, arith}
use Rattle.std.proofs.lemmas.Bool.{false≢true}
use Rattle.std.proofs.lemmas.List.{append_cancel_left}
use Rattle.std.specs.Prelude.{slice_set}
use Rattle.ff_rec.specs.Streams.{IsOpen, IsOpenMsg, at, added, unaborted, closed, GoesOn}
use Rattle.ff_rec.specs.declared.msg.Msg.TheVariants.{Eos as EosMsg}
use Rattle.ff_node.specs.Runs.{Message, AllGoOn, AreOpen}
use Rattle.ff_unit.specs.Closing.{IsLive, any_live}
use Rattle.ff_unit.specs.MessageLaws.{IsOpen-append, unaborted-append, unaborted-open, unaborted-closed}
use Rattle.ff_unit.specs.StageTiedLaws.{IsClosed}

-- lists that go on from more go on from less
pub AllGoOn-before : (gots ins : List (List Message)) (k : ℕ) (m : Message) → AllGoOn (added gots k m) ins → AllGoOn gots ins
AllGoOn-before [] ins k m h = h
AllGoOn-before (g ∷ gots) [] zero m h = h
AllGoOn-before (g ∷ gots) (ms ∷ ins) zero m h = (
  record {
    inner = h.0.inner;
    more = unaborted (m ∷ []) ++ h.0.more;
    is = h.0.is ∙ ap (λ l. l ++ h.0.more) (unaborted-append g (m ∷ [])) ∙ append_assoc (unaborted g) (unaborted (m ∷ [])) h.0.more;
  },
  h.1,
)
AllGoOn-before (g ∷ gots) [] (suc k) m h = h
AllGoOn-before (g ∷ gots) (ms ∷ ins) (suc k) m h = (h.0, AllGoOn-before gots ins k m h.1)

pub AllGoOn-at : (gots ins : List (List Message)) (k : ℕ) → k < length gots → AllGoOn gots ins → GoesOn (unaborted (at gots k)) (at ins k)
AllGoOn-at [] ins k below h = absurd (omega (arith, below))
AllGoOn-at (g ∷ gots) [] k below h = absurd h
AllGoOn-at (g ∷ gots) (ms ∷ ins) zero below h = h.0
AllGoOn-at (g ∷ gots) (ms ∷ ins) (suc k) below h = AllGoOn-at gots ins k (omega (arith, below)) h.1

pub AllGoOn-length : (gots ins : List (List Message)) → AllGoOn gots ins → length gots ≡ length ins
AllGoOn-length [] [] h = refl
AllGoOn-length [] (ms ∷ ins) h = absurd h
AllGoOn-length (g ∷ gots) [] h = absurd h
AllGoOn-length (g ∷ gots) (ms ∷ ins) h = ap suc (AllGoOn-length gots ins h.1)

-- no end stands in a list that was gone on with
pub AllGoOn-open : (gots ins : List (List Message)) → AllGoOn gots ins → AreOpen ins
AllGoOn-open [] [] h = tt
AllGoOn-open [] (ms ∷ ins) h = absurd h
AllGoOn-open (g ∷ gots) [] h = absurd h
AllGoOn-open (g ∷ gots) (ms ∷ ins) h = (h.0.inner, AllGoOn-open gots ins h.1)

-- where a list was to go on by `inner`, the message that joins it is the first of that, or its end
pub GoesOn-next : (g inner ms : List Message) (m : Message) → IsOpen g → (unaborted (m ∷ []) ≡ m ∷ []) → ms ≡ g ++ inner
    → GoesOn (unaborted (g ++ m ∷ [])) ms → (more : List Message) × (closed inner ≡ m ∷ more)
GoesOn-next g inner ms m inner_open whole are h = (
  h.more,
  append_cancel_left g (closed inner) (m ∷ h.more)
      (sym (append_assoc g inner (EosMsg ∷ [])) ∙ ap closed (sym are) ∙ h.is ∙ ap (λ l. l ++ h.more) (unaborted-append g (m ∷ []))
      ∙ ap (λ l. (unaborted g ++ l) ++ h.more) whole ∙ ap (λ l. (l ++ m ∷ []) ++ h.more) (unaborted-open g inner_open)
      ∙ append_assoc g (m ∷ []) h.more),
)

-- the flags tell which ins gave their Eos; no Abort was taken
abbrev pub FlagsFit : List Bool → List (List Message) → Type 0
FlagsFit [] [] = Unit {0}
FlagsFit [] (g ∷ gots) = ⊥
FlagsFit (l ∷ live) [] = ⊥
FlagsFit (true ∷ live) (g ∷ gots) = IsOpen g × FlagsFit live gots
FlagsFit (false ∷ live) (g ∷ gots) = IsClosed g × FlagsFit live gots

pub FlagsFit-at : (live : List Bool) (gots : List (List Message)) (k : ℕ) → FlagsFit live gots → IsLive live k → IsOpen (at gots k)
FlagsFit-at [] gots k h on = absurd (false≢true on)
FlagsFit-at (l ∷ live) [] k h on = absurd h
FlagsFit-at (true ∷ live) (g ∷ gots) zero h on = h.0
FlagsFit-at (false ∷ live) (g ∷ gots) zero h on = absurd (false≢true on)
FlagsFit-at (true ∷ live) (g ∷ gots) (suc k) h on = FlagsFit-at live gots k h.1 on
FlagsFit-at (false ∷ live) (g ∷ gots) (suc k) h on = FlagsFit-at live gots k h.1 on

-- a live in gives a message behind which others may come, or its Eos
pub FlagsFit-added : (live : List Bool) (gots : List (List Message)) (k : ℕ) (m : Message) → FlagsFit live gots → IsLive live k → IsOpenMsg m
    → FlagsFit live (added gots k m)
FlagsFit-added [] gots k m h on inner = absurd (false≢true on)
FlagsFit-added (l ∷ live) [] k m h on inner = absurd h
FlagsFit-added (true ∷ live) (g ∷ gots) zero m h on inner = (IsOpen-append g (m ∷ []) h.0 (inner, tt), h.1)
FlagsFit-added (false ∷ live) (g ∷ gots) zero m h on inner = absurd (false≢true on)
FlagsFit-added (true ∷ live) (g ∷ gots) (suc k) m h on inner = (h.0, FlagsFit-added live gots k m h.1 on inner)
FlagsFit-added (false ∷ live) (g ∷ gots) (suc k) m h on inner = (h.0, FlagsFit-added live gots k m h.1 on inner)

pub FlagsFit-ended : (live : List Bool) (gots : List (List Message)) (k : ℕ) → FlagsFit live gots → IsLive live k
    → FlagsFit (slice_set live k false) (added gots k EosMsg)
FlagsFit-ended [] gots k h on = absurd (false≢true on)
FlagsFit-ended (l ∷ live) [] k h on = absurd h
FlagsFit-ended (true ∷ live) (g ∷ gots) zero h on = (record { inner = g; open_inner = h.0; is = refl }, h.1)
FlagsFit-ended (false ∷ live) (g ∷ gots) zero h on = absurd (false≢true on)
FlagsFit-ended (true ∷ live) (g ∷ gots) (suc k) h on = (h.0, FlagsFit-ended live gots k h.1 on)
FlagsFit-ended (false ∷ live) (g ∷ gots) (suc k) h on = (h.0, FlagsFit-ended live gots k h.1 on)

-- whole ins, which the lists end
pub record AreWhole (gots : List (List Message)) : Type 0 where
  pub ins : List (List Message)
  pub gots_are : gots ≡ map closed ins
  pub go_on : AllGoOn gots ins

-- once no in gives any more, the ins are whole
pub FlagsFit-whole : (live : List Bool) (gots : List (List Message)) → FlagsFit live gots → any_live live ≡ false → AreWhole gots
FlagsFit-whole [] [] h none = record { ins = []; gots_are = refl; go_on = tt }
FlagsFit-whole [] (g ∷ gots) h none = absurd h
FlagsFit-whole (l ∷ live) [] h none = absurd h
FlagsFit-whole (true ∷ live) (g ∷ gots) h none = absurd (false≢true (sym none))
FlagsFit-whole (false ∷ live) (g ∷ gots) h none =
    let rest = FlagsFit-whole live gots h.1 none in record {
      ins = h.0.inner ∷ rest.ins;
      gots_are = ap (λ l. l ∷ gots) h.0.is ∙ ap (λ l. closed h.0.inner ∷ l) rest.gots_are;
      go_on = (
        record {
          inner = h.0.open_inner;
          more = [];
          is = sym (unaborted-closed h.0.inner h.0.open_inner) ∙ ap unaborted (sym h.0.is) ∙ sym (append-nil (unaborted g));
        },
        rest.go_on,
      );
    }
