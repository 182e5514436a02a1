-- A deal that waits, or has ended, passed on what came.
use Rattle.std.specs.Prelude.{◌≤◌, slice_index}
use Rattle.std.proofs.Common.{◌≡◌, ◌⊎◌, ℕ, ◌<◌, Bool, true, false, List, [], ◌∷◌, ◌++◌, length, Option, None, Some, refl, sym, ◌∙◌, subst, inl, inr, arith, append-nil}
use Rattle.std.proofs.lemmas.Bool.{false≢true}
use Rattle.ff_rec.specs.Lines.{Rec}
use Rattle.ff_rec.specs.Streams.{at, added}
use Rattle.ff_rec.specs.declared.msg.Msg.TheVariants.{Item, Mark, Pick, Eos as EosMsg, Abort as AbortMsg}
use Rattle.ff_node.specs.Runs.{Message, Act, Took, Gave, Refused, Idle, Told, Handed, took, gave, HasRun}
use Rattle.ff_port.specs.declared.answers.End.{End}
use Rattle.ff_port.specs.declared.answers.End.TheVariants.{Eos, Abort, Memory}
use Rattle.ff_unit.specs.DealKeptLaws.{HasRun-tied_deal}
use Rattle.ff_unit.specs.DealPairLaws.{Pair, on}
use Rattle.ff_unit.specs.DealReadyLaws.{DealReady-tied}
use Rattle.ff_unit.specs.DealTellingLaws.{on-telling}
use Rattle.ff_unit.specs.DealTiedLaws.{IsTelling, TiedAt, IsTied}
use Rattle.ff_unit.specs.Deals.{DealState, DealStep, DealGives, DealStalls, AreOpenOuts, deal_takes, deals, deals_one, deal_does, deal_outs, opening_deal}
use Rattle.ff_unit.specs.RunLaws.{HasRun-keeps}
use Rattle.ff_unit.specs.TakenLaws.{at-added, length-added}
use Rattle.ff_unit.specs.Units.{Ran, Known}
use Rattle.ff_unit.specs.declared.dealing.Dealing.{Dealing}
use Rattle.ff_unit.specs.declared.dealing.Dealing.TheVariants.{InTurn, OnDemand, ByKey, GroupsInTurn, GroupsOnDemand}
use Rattle.ff_unit.proofs.Rests.{HasEnd}
use Rattle.ff_unit.proofs.Rests.{AtRest, IsFree, Rested}
use Rattle.ff_unit.proofs.HasEnds.{HasEnd-right, HasEnd-either}

-- while it wasn't told to abort, its flag tells whether its in ended
record DealFlag (u : DealState) (gots : List (List Message)) : Type 0 where
  pub one : length gots ≡ 1
  pub live : u.live ≡ true → HasEnd (at gots 0) → ⊥
  pub ended : u.live ≡ false → HasEnd (at gots 0)

abbrev DealFlags : DealState → List (List Message) → List (List Message) → Type 0
DealFlags u gots puts = u.told ≡ false → DealFlag u gots

-- a record is dealt or dropped
deals_one-live : (way : Dealing) (u : DealState) (x : Rec) → ((deals_one way u x).live ≡ u.live) × ((deals_one way u x).told ≡ u.told)
deals_one-live InTurn u x = (refl, refl)
deals_one-live OnDemand u x = (refl, refl)
deals_one-live (ByKey f) u x = (refl, refl)
deals_one-live GroupsInTurn u x = (refl, refl)
deals_one-live GroupsOnDemand u x = (refl, refl)

deals-live : (end : End) (u : DealState) (x : Rec) → ((deals end u x).live ≡ u.live) × ((deals end u x).told ≡ u.told)
deals-live Eos u x = deals_one-live u.way u x
deals-live Abort u x = deals_one-live u.way u x
deals-live Memory u x = (refl, refl)

module _ (u : DealState) (gots puts : List (List Message)) (live : u.live ≡ true) (h : DealFlags u gots puts) where
  kept-flag : (m : Message) (v : DealState) → v.live ≡ u.live → v.told ≡ u.told → (HasEnd (m ∷ []) → ⊥) → DealFlags v (added gots 0 m) puts
  kept-flag m v same_live same_told inner = λ told.
      let f = h (sym same_told ∙ told) in
      let some : 0 < length gots = omega (arith, f.one) in
      record {
        one = length-added gots 0 m ∙ f.one;
        live = λ on end. elim (HasEnd-either (at gots 0) (m ∷ []) (subst HasEnd (at-added gots 0 m some) end)) [ inl before ↦ f.live live before | inr here ↦ inner here ];
        ended = λ off. absurd (false≢true (sym off ∙ same_live ∙ live));
      }

  ended-flag : (m : Message) (v : DealState) → v.live ≡ false → v.told ≡ u.told → HasEnd (m ∷ []) → DealFlags v (added gots 0 m) puts
  ended-flag m v off same_told end = λ told.
      let f = h (sym same_told ∙ told) in
      let some : 0 < length gots = omega (arith, f.one) in
      record {
        one = length-added gots 0 m ∙ f.one;
        live = λ on. absurd (false≢true (sym off ∙ on));
        ended = λ _. subst HasEnd (sym (at-added gots 0 m some)) (HasEnd-right (at gots 0) (m ∷ []) end);
      }

  takes-flag : (m : Message) → DealFlags (deal_takes u m) (added gots 0 m) puts
  takes-flag (Item x) = let kept = deals-live u.end u x in kept-flag (Item x) (deals u.end u x) kept.0 kept.1 (λ e. e)
  takes-flag Mark = kept-flag Mark u refl refl (λ e. e)
  takes-flag (Pick w) = kept-flag (Pick w) u refl refl (λ e. e)
  takes-flag EosMsg = ended-flag EosMsg (deal_takes u EosMsg) refl refl tt
  takes-flag AbortMsg = ended-flag AbortMsg (deal_takes u AbortMsg) refl refl tt

gives-flag : (free : Option Rec) (u : DealState) (gots puts : List (List Message)) (k : ℕ) (m : Message) (v : DealState) → DealFlags u gots puts → DealGives free u k m v → DealFlags v gots (added puts k m)
gives-flag None u gots puts k m v h s = subst (λ w. DealFlags w gots (added puts k m)) (sym s.1) (λ told. record { one = (h told).one; live = (h told).live; ended = (h told).ended })
gives-flag (Some x) u gots puts k m v h s = subst (λ w. DealFlags w gots (added puts k m)) (sym s.2) (λ told. record { one = (h told).one; live = (h told).live; ended = (h told).ended })

step-flag : (u : DealState) (gots puts : List (List Message)) (act : Act) (v : DealState) → DealFlags u gots puts → DealStep u act v → DealFlags v (took act gots) (gave act puts)
step-flag u gots puts (Took k m) v h s =
    subst (λ i. DealFlags v (added gots i m) puts) (sym s.0) (subst (λ w. DealFlags w (added gots 0 m) puts) (sym s.4) (takes-flag u gots puts s.3 h m))
step-flag u gots puts (Gave k m) v h s = gives-flag u.free u gots puts k m v h s
step-flag u gots puts Refused v h s = subst (λ w. DealFlags w gots puts) (sym s.1) (λ told. record { one = (h told).one; live = (h told).live; ended = (h told).ended })
step-flag u gots puts Idle v h (inl e) = subst (λ w. DealFlags w gots puts) (sym e) h
step-flag u gots puts Idle v h (inr s) = subst (λ w. DealFlags w gots puts) (sym s.3) (λ told. record { one = (h told).one; live = (h told).live; ended = (h told).ended })
step-flag u gots puts Told v h s = subst (λ w. DealFlags w gots puts) (sym s.1) (λ told. absurd (false≢true (sym told)))
step-flag u gots puts (Handed x) v h s = absurd s

deal-flags : (u : DealState) (gots puts : List (List Message)) → HasRun DealStep (opening_deal u) 1 (deal_outs u.way u.places) u gots puts → DealFlags u gots puts
deal-flags u gots puts run =
    HasRun-keeps DealStep DealFlags (opening_deal u) 1 (deal_outs u.way u.places)
    (λ told. record { one = refl; live = λ on end. end; ended = λ off. absurd (false≢true (sym off)) }) step-flag u gots puts run

-- an out whose end is told and not held
told-out : (outs : ℕ) (m : Message) (front ps held : List Pair) (j : ℕ) → j < outs → HasEnd (m ∷ []) → IsTelling outs m front ps held → held ≡ [] → HasEnd (on j ps)
told-out outs m front ps held j below end t none =
    let all = on-telling outs m front ps held j below t in
    subst HasEnd (append-nil (on j ps)) (subst (λ l. HasEnd (on j ps ++ on j l)) none (subst HasEnd (sym all) (HasEnd-right (on j front) (m ∷ []) end)))

told-all : (live : Bool) (end : End) (u : DealState) (g : List Message) (ps : List Pair) → live ≡ false → u.held ≡ [] → TiedAt live end u g ps
    → (j : ℕ) → j < deal_outs u.way u.places → HasEnd (on j ps)
told-all true end u g ps off none t j below = absurd (false≢true (sym off))
told-all false Eos u g ps off none t j below = told-out _ EosMsg _ ps u.held j below tt t.telling none
told-all false Abort u g ps off none t j below = told-out _ AbortMsg _ ps u.held j below tt t.0.telling none
told-all false Memory u g ps off none t j below = told-out _ AbortMsg _ ps u.held j below tt t.telling none

outs-some : (way : Dealing) (n : ℕ) → 1 ≤ n → 0 < deal_outs way n
outs-some InTurn n some = omega (arith, some)
outs-some OnDemand n some = omega (arith, some)
outs-some (ByKey f) n some = omega (arith, some)
outs-some GroupsInTurn n some = omega (arith, some)
outs-some GroupsOnDemand n some = omega (arith, some)

module _ (u : DealState) (gots puts : List (List Message)) (ran : Ran deal_does u gots puts) (told : u.told ≡ false) where
  pub tied : IsTied u gots puts
  tied = HasRun-tied_deal u gots puts ran.0.0 ran.1

  flag : DealFlag u gots
  flag = deal-flags u gots puts ran.1 told

  module _ (before after : Known) (idle : after.waiting ≡ 0) where
    -- one that has ended
    pub deal_ended : u.done ≡ true → Rested 1 (deal_outs u.way u.places) gots puts after u.done
    deal_ended done =
        let rests = tied.done done in
        let end = flag.ended rests.2 in
        record {
          dry = λ k below. let none : k ≡ 0 = omega (arith, below) in inl (subst (λ j. HasEnd (at gots j)) (sym none) end);
          ends = λ each. (done, λ k below. subst HasEnd (sym (tied.puts_are.each k below)) (told-all u.live u.end u tied.got tied.given rests.2 rests.1 tied.tied k below));
        }

    -- one whose in was due
    pub deal_dry : u.live ≡ true → slice_index after.knowns 0 ≡ 0 → Rested 1 (deal_outs u.way u.places) gots puts after u.done
    deal_dry live dry = record {
      dry = λ k below. let none : k ≡ 0 = omega (arith, below) in inr (subst (λ j. slice_index after.knowns j ≡ 0) (sym none) dry);
      ends = λ each. absurd (flag.live live (each 0 (omega arith)));
    }

    -- one of the outs that are due has no room
    pub record Blocked : Type 0 where
      pub pair : Pair
      pub rest : List Pair
      pub is : u.held ≡ pair ∷ rest
      pub below : pair.0 < deal_outs u.way u.places
      pub full : slice_index after.rooms pair.0 ≡ 0

    first_out : (pair : Pair) (rest : List Pair) → u.held ≡ pair ∷ rest → pair.0 < deal_outs u.way u.places
    first_out pair rest is =
        let ready = DealReady-tied u gots puts tied in
        let first = (subst (AreOpenOuts puts) is ready.open_held).0 in
        omega (arith, first, ready.outs)

    stalled : (held : List Pair) (live : Bool) → u.held ≡ held → u.live ≡ live → DealStalls None held live u.places before after
        → Blocked ⊎ Rested 1 (deal_outs u.way u.places) gots puts after u.done
    stalled (pair ∷ rest) live is_held is stalls = inl (record { pair = pair; rest = rest; is = is_held; below = first_out pair rest is_held; full = stalls.1 })
    stalled [] true is_held is stalls = inr (deal_dry is stalls.1)
    stalled [] false is_held is stalls = absurd (stalls idle)

    -- one that doesn't go on demand
    pub deal_blocked : u.free ≡ None → AtRest deal_does u before after → Blocked ⊎ Rested 1 (deal_outs u.way u.places) gots puts after u.done
    deal_blocked none (inl done) = inr (deal_ended done)
    deal_blocked none (inr stalls) =
        stalled u.held u.live refl refl (subst (λ free. DealStalls free u.held u.live u.places before after) none stalls)

  pub deal_rests : (before after : Known) → u.free ≡ None → AtRest deal_does u before after → IsFree (deal_outs u.way u.places) after
      → Rested 1 (deal_outs u.way u.places) gots puts after u.done
  deal_rests before after none rest free = elim (deal_blocked before after free.idle none rest) [
    | inl blocked ↦ absurd (free.rooms blocked.pair.0 blocked.below blocked.full)
    | inr rested ↦ rested
  ]
