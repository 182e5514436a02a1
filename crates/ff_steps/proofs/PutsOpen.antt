-- On no out does a unit put anything behind an end.
use Rattle.std.proofs.Common.{◌≡◌, ℕ, zero, suc, ◌≤◌, ◌⊎◌, List, [], ◌∷◌, ◌++◌, length, replicate, refl, sym, ap, ◌∙◌, subst, inl, inr, arith, Option, None, Some, IsSome}
use Rattle.std.specs.List.{AllByRecursion}
use Rattle.ff_rec.specs.Lines.{Rec}
use Rattle.ff_rec.specs.Streams.{IsOpen, IsOpenMsg, at, added, closed}
use Rattle.ff_rec.specs.declared.msg.Msg.TheVariants.{Eos}
use Rattle.ff_node.specs.Behaviour.{Behaviour}
use Rattle.ff_node.specs.Runs.{Message, Act, Took, Gave, Refused, Idle, Told, Handed, Leads, took_on, gave_on}
use Rattle.ff_unit.specs.Deals.{DealState, DealReady, DealGives, AreOpenOuts}
use Rattle.ff_unit.specs.Units.{Doing, IsUnit, Ran, RanFrom}
use Rattle.ff_unit.proofs.UnitRuns.{opening-leads}
use Rattle.ff_steps.specs.NetUnits.{NetState, AsStage, AsDeal, AsMerge, AsOMerge, AsMaster, AsWorker, NetStep, net_does}
use Rattle.ff_steps.proofs.Heads.{head-same, tail-same, cons≢nil}

-- at most one message stands behind open ones
pub record EndsOnce (ms : List Message) : Type 0 where
  pub front : List Message
  pub back : List Message
  pub is : ms ≡ front ++ back
  pub inner : IsOpen front
  pub few : length back ≤ 1

-- a whole list that begins such a list is all of it
abbrev IsAll : List Message → List Message → Type 0
IsAll ms rest = IsOpen ms × (rest ≡ [])

no-more : (rest : List Message) → length (Eos ∷ rest) ≤ 1 → rest ≡ []
no-more [] few = refl
no-more (m ∷ rest) few = absurd (omega (arith, few))

closed-once : (front back ms rest : List Message) → closed ms ++ rest ≡ front ++ back → IsOpen front → length back ≤ 1 → IsAll ms rest
closed-once [] back [] rest is inner few = (tt, no-more rest (subst (λ l. length l ≤ 1) (sym is) few))
closed-once [] back (m ∷ []) rest is inner few = absurd (omega (arith, few, ap length is))
closed-once [] back (m ∷ n ∷ ms) rest is inner few = absurd (omega (arith, few, ap length is))
closed-once (f ∷ front) back [] rest is inner few = absurd (subst IsOpenMsg (sym (head-same is)) inner.0)
closed-once (f ∷ front) back (m ∷ ms) rest is inner few =
    let all = closed-once front back ms rest (tail-same is) inner.1 few in
    ((subst IsOpenMsg (sym (head-same is)) inner.0, all.0), all.1)

pub closed-ends_once : (p ms rest : List Message) → EndsOnce p → p ≡ closed ms ++ rest → IsOpen ms × (rest ≡ [])
closed-ends_once p ms rest once is = closed-once once.front once.back ms rest (sym is ∙ once.is) once.inner once.few

-- each out at first, and behind a message more on an open one
EndsOnce-none : (n : ℕ) → AllByRecursion EndsOnce (replicate n [])
EndsOnce-none zero = tt
EndsOnce-none (suc n) = (record { front = []; back = []; is = refl; inner = tt; few = omega arith }, EndsOnce-none n)

EndsOnce-added : (puts : List (List Message)) (k : ℕ) (m : Message) → AllByRecursion EndsOnce puts → IsOpen (at puts k) → AllByRecursion EndsOnce (added puts k m)
EndsOnce-added [] k m each inner = tt
EndsOnce-added (p ∷ puts) zero m each inner = (record { front = p; back = m ∷ []; is = refl; inner = inner; few = omega arith }, each.1)
EndsOnce-added (p ∷ puts) (suc k) m each inner = (each.0, EndsOnce-added puts k m each.1 inner)

-- a unit that puts on open outs alone
module _ {U : Type 0} (d : Doing U) (laws : IsUnit d)
    (opens : (u : U) (gots puts : List (List Message)) (k : ℕ) (m : Message) (v : U) → d.Ready u gots puts → d.Steps u (Gave k m) v → IsOpen (at puts k)) where
  EndsOnce-acts : (o : U) → d.Made o → d.opening o ≡ o → (acts : List Act) (v : U) → Leads d.Steps o acts v → AllByRecursion EndsOnce (gave_on (replicate (d.outs o) []) acts)
  EndsOnce-acts o made first [] v leads = EndsOnce-none (d.outs o)
  EndsOnce-acts o made first (Took k m ∷ acts) v leads = EndsOnce-acts o made first acts leads.0 leads.1
  EndsOnce-acts o made first (Gave k m ∷ acts) v leads =
      let gots = took_on (replicate (d.ins o) []) acts in
      let puts = gave_on (replicate (d.outs o) []) acts in
      let ran : Ran d leads.0 gots puts = subst (λ x. RanFrom d x leads.0 gots puts) (sym (opening-leads d laws o acts leads.0 leads.1 ∙ first))
      (made, record { acts = acts; leads = leads.1; takes = refl; gives = refl }) in
      EndsOnce-added puts k m (EndsOnce-acts o made first acts leads.0 leads.1) (opens leads.0 gots puts k m v (laws.ready leads.0 gots puts ran) leads.2)
  EndsOnce-acts o made first (Refused ∷ acts) v leads = EndsOnce-acts o made first acts leads.0 leads.1
  EndsOnce-acts o made first (Idle ∷ acts) v leads = EndsOnce-acts o made first acts leads.0 leads.1
  EndsOnce-acts o made first (Told ∷ acts) v leads = EndsOnce-acts o made first acts leads.0 leads.1
  EndsOnce-acts o made first (Handed x ∷ acts) v leads = EndsOnce-acts o made first acts leads.0 leads.1

  pub EndsOnce-ran : (u : U) (gots puts : List (List Message)) → Ran d u gots puts → AllByRecursion EndsOnce puts
  EndsOnce-ran u gots puts ran =
      subst (AllByRecursion EndsOnce) (sym ran.1.gives)
      (EndsOnce-acts (d.opening u) ran.0 (sym (opening-leads d laws (d.opening u) ran.1.acts u ran.1.leads)) ran.1.acts u ran.1.leads)

-- what is held can be put
open_out : (held rest : List Message) (m : Message) (put : List Message) → (held ≡ []) ⊎ IsOpen put → held ≡ m ∷ rest → IsOpen put
open_out held rest m put (inl none) is = absurd (cons≢nil (sym is ∙ none))
open_out held rest m put (inr inner) is = inner

-- each kind of unit does
module _ {N : Type 0} (b : Behaviour N) where
  open-deal : (free : Option Rec) (u : DealState) → u.free ≡ free → (gots puts : List (List Message)) (k : ℕ) (m : Message) (v : DealState)
      → DealReady u gots puts → DealGives free u k m v → IsOpen (at puts k)
  open-deal None u is gots puts k m v ready gives = (subst (AreOpenOuts puts) gives.0 ready.open_held).1
  open-deal (Some x) u is gots puts k m v ready gives = ready.open_free (subst (λ (f : Option Rec). IsSome f) (sym is) refl) k gives.1

  pub open-net : (u : NetState N) (gots puts : List (List Message)) (k : ℕ) (m : Message) (v : NetState N)
      → (net_does b).Ready u gots puts → NetStep b u (Gave k m) v → IsOpen (at puts k)
  open-net (AsStage u) gots puts k m v ready step =
      subst (λ j. IsOpen (at puts j)) (sym step.2.0) (open_out u.held step.0.held m (at puts 0) ready.open_out step.2.1)
  open-net (AsDeal u) gots puts k m v ready step = open-deal u.free u refl gots puts k m step.0 ready step.2
  open-net (AsMerge u) gots puts k m v ready step =
      subst (λ j. IsOpen (at puts j)) (sym step.2.0) (open_out u.held step.0.held m (at puts 0) ready.open_out step.2.1)
  open-net (AsOMerge u) gots puts k m v ready step =
      subst (λ j. IsOpen (at puts j)) (sym step.2.0) (open_out u.held step.0.held m (at puts 0) ready.open_out step.2.1)
  open-net (AsMaster u) gots puts k m v ready step = (subst (AreOpenOuts puts) step.2.1 ready.open_held).1
  open-net (AsWorker u) gots puts k m v ready step =
      subst (λ j. IsOpen (at puts j)) (sym step.2.0) (open_out u.held step.0.held m (at puts 0) ready.open_out step.2.1)
