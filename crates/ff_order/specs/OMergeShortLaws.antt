-- An ordered merge becomes short of memory at a refused put alone.
use Rattle.std.specs.Prelude.{◌≡◌, ◌⊎◌, ◌<◌, nat_lt, ℕ, Bool, true, false, if◌then◌else◌, slice_set}
use Rattle.std.proofs.Common.{[], ◌∷◌, refl, sym, ap, ◌∙◌, inl, inr}
use Rattle.std.proofs.lemmas.Bool.{false≢true}
use Rattle.ff_rec.specs.declared.msg.Msg.TheVariants.{Item, Mark, Pick, Eos as EosMsg, Abort as AbortMsg}
use Rattle.ff_node.specs.Runs.{Message, Act, Took, Gave, Refused, Idle, Told, Handed}
use Rattle.ff_unit.specs.Closing.{any_live, is_memory}
use Rattle.ff_unit.specs.Units.{LacksBy}
use Rattle.ff_unit.specs.declared.mode.Mode.{Mode}
use Rattle.ff_unit.specs.declared.mode.Mode.TheVariants.{Live, Shut, Cut}
use Rattle.ff_order.specs.OMerges.{OMergeState, OMergeStep, omerge_takes, omerge_gets, omerge_ended, omerge_spoiled, omerge_closes, gets_group, gets_pick, next_due}

-- a message that isn't the last of its in leaves how it will end
due-end : (u : OMergeState) (within : Bool) (w : ℕ) → (if within then record u { due = w } else u).end ≡ u.end
due-end u true w = refl
due-end u false w = refl

pick-end : (u : OMergeState) (m : Message) → (gets_pick u m).end ≡ u.end
pick-end u (Item x) = refl
pick-end u Mark = refl
pick-end u (Pick w) = due-end u (nat_lt w u.places) w
pick-end u EosMsg = refl
pick-end u AbortMsg = refl

group-end : (u : OMergeState) (m : Message) → (gets_group u m).end ≡ u.end
group-end u (Item x) = refl
group-end u Mark = refl
group-end u (Pick w) = refl
group-end u EosMsg = refl
group-end u AbortMsg = refl

either-end : (u : OMergeState) (in_group : Bool) (m : Message) → (if in_group then gets_group u m else gets_pick u m).end ≡ u.end
either-end u true m = group-end u m
either-end u false m = pick-end u m

gets-end : (mode : Mode) (u : OMergeState) (m : Message) → (omerge_gets mode u m).end ≡ u.end
gets-end Live u m = either-end u (nat_lt u.due u.places) m
gets-end Shut u m = refl
gets-end Cut u m = refl

-- nor does an Eos change it
closes-end : (w : OMergeState) (any : Bool) → (if any then record w { mode = Shut } else record w { held = EosMsg ∷ []; mode = Shut }).end ≡ w.end
closes-end w true = refl
closes-end w false = refl

ended-end : (mode : Mode) (w : OMergeState) → (omerge_ended mode w).end ≡ w.end
ended-end Live w = closes-end w (any_live w.live)
ended-end Shut w = closes-end w (any_live w.live)
ended-end Cut w = refl

-- an Abort makes it short only where it was
spoiled-short : (mode : Mode) (w : OMergeState) → is_memory (omerge_spoiled mode w).end ≡ true → is_memory w.end ≡ true
spoiled-short Live w e = absurd (false≢true e)
spoiled-short Shut w e = absurd (false≢true e)
spoiled-short Cut w e = e

takes-short : (u : OMergeState) (k : ℕ) (m : Message) → is_memory (omerge_takes u k m).end ≡ true → is_memory u.end ≡ true
takes-short u k (Item x) e = sym (ap is_memory (gets-end u.mode u (Item x))) ∙ e
takes-short u k Mark e = sym (ap is_memory (gets-end u.mode u Mark)) ∙ e
takes-short u k (Pick w) e = sym (ap is_memory (gets-end u.mode u (Pick w))) ∙ e
takes-short u k EosMsg e = sym (ap is_memory (ended-end u.mode (record u { live = slice_set u.live k false }))) ∙ e
takes-short u k AbortMsg e = spoiled-short u.mode (record u { live = slice_set u.live k false }) e

pub short_omerge-step : (u : OMergeState) (act : Act) (v : OMergeState) → OMergeStep u act v → is_memory v.end ≡ true → (is_memory u.end ≡ true) ⊎ LacksBy false act
short_omerge-step u (Took k m) v s short = inl (takes-short u k m (sym (ap (λ w. is_memory w.end) s.3) ∙ short))
short_omerge-step u (Gave k m) v s short = inl (sym (ap (λ w. is_memory w.end) s.2) ∙ short)
short_omerge-step u Refused v s short = inr tt
short_omerge-step u Idle v (inl e) short = inl (sym (ap (λ w. is_memory w.end) e) ∙ short)
short_omerge-step u Idle v (inr s) short = inl (sym (ap (λ w. is_memory w.end) s.2) ∙ short)
short_omerge-step u Told v s short = absurd (false≢true (sym (ap (λ w. is_memory w.end) s.1) ∙ short))
short_omerge-step u (Handed x) v s short = absurd s
