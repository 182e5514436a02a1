-- Where the units that make no calls of their own become short of memory: at a refused put alone.
use Rattle.std.specs.Prelude.{◌≡◌, ◌⊎◌, Bool, true, false, if◌then◌else◌, slice_set, Option, None, Some}
use Rattle.std.proofs.Common.{refl, sym, ap, ◌∙◌, inl, inr}
use Rattle.std.proofs.lemmas.Bool.{false≢true}
use Rattle.std.proofs.lemmas.Option.{none-some}
use Rattle.ff_rec.specs.Lines.{Rec}
use Rattle.ff_rec.specs.declared.msg.Msg.TheVariants.{Item, Mark, Pick, Eos as EosMsg, Abort as AbortMsg}
use Rattle.ff_node.specs.Runs.{Message, Act, Took, Gave, Refused, Idle, Told, Handed}
use Rattle.ff_port.specs.declared.answers.End.{End}
use Rattle.ff_port.specs.declared.answers.End.TheVariants.{Eos, Abort, Memory}
use Rattle.ff_unit.specs.Closing.{any_live, spoiled, decided, told_well, is_memory}
use Rattle.ff_unit.specs.Deals.{DealState, DealStep, DealGives, deal_takes, deals, deals_one}
use Rattle.ff_unit.specs.Merges.{MergeState, MergeStep, merge_takes, merge_closes}
use Rattle.ff_unit.specs.Units.{LacksBy}
use Rattle.ff_unit.specs.declared.dealing.Dealing.{Dealing}
use Rattle.ff_unit.specs.declared.dealing.Dealing.TheVariants.{InTurn, OnDemand, ByKey, GroupsInTurn, GroupsOnDemand}

-- a decided end by Memory is one
pub decided-memory : (live : Bool) (end : End) → decided live end ≡ Some Memory → is_memory end ≡ true
decided-memory true end e = absurd (none-some Memory e)
decided-memory false Eos e = absurd cc
decided-memory false Abort e = absurd cc
decided-memory false Memory e = refl

-- a taken Abort makes no unit short
is_memory-spoiled : (end : End) → is_memory (spoiled end) ≡ is_memory end
is_memory-spoiled Eos = refl
is_memory-spoiled Abort = refl
is_memory-spoiled Memory = refl

-- nor does any message that a deal takes
deals_one-end : (way : Dealing) (u : DealState) (x : Rec) → (deals_one way u x).end ≡ u.end
deals_one-end InTurn u x = refl
deals_one-end OnDemand u x = refl
deals_one-end (ByKey f) u x = refl
deals_one-end GroupsInTurn u x = refl
deals_one-end GroupsOnDemand u x = refl

deals-end : (end : End) (u : DealState) (x : Rec) → (deals end u x).end ≡ u.end
deals-end Eos u x = deals_one-end u.way u x
deals-end Abort u x = deals_one-end u.way u x
deals-end Memory u x = refl

deal_takes-short : (u : DealState) (m : Message) → is_memory (deal_takes u m).end ≡ is_memory u.end
deal_takes-short u (Item x) = ap is_memory (deals-end u.end u x)
deal_takes-short u Mark = refl
deal_takes-short u (Pick w) = refl
deal_takes-short u EosMsg = refl
deal_takes-short u AbortMsg = is_memory-spoiled u.end

pub short_deal-step : (u : DealState) (act : Act) (v : DealState) → DealStep u act v → is_memory v.end ≡ true → (is_memory u.end ≡ true) ⊎ LacksBy false act
short_deal-step u (Took k m) v s short = inl (sym (ap (λ w. is_memory w.end) s.4 ∙ deal_takes-short u m) ∙ short)
short_deal-step u (Gave k m) v s short = inl (sym (gives u.free s) ∙ short)
  where
    gives : (free : Option Rec) → DealGives free u k m v → is_memory v.end ≡ is_memory u.end
    gives None h = ap (λ w. is_memory w.end) h.1
    gives (Some x) h = ap (λ w. is_memory w.end) h.2
short_deal-step u Refused v s short = inr tt
short_deal-step u Idle v (inl e) short = inl (sym (ap (λ w. is_memory w.end) e) ∙ short)
short_deal-step u Idle v (inr s) short = inl (sym (ap (λ w. is_memory w.end) s.3) ∙ short)
short_deal-step u Told v s short = absurd (false≢true (sym (ap (λ w. is_memory w.end) s.1) ∙ short))
short_deal-step u (Handed x) v s short = absurd s

-- nor any that a merge takes
closes-end : (w : MergeState) (any : Bool) → (if any then w else record w { held = told_well w.end }).end ≡ w.end
closes-end w true = refl
closes-end w false = refl

merge_closes-end : (w : MergeState) → (merge_closes w).end ≡ w.end
merge_closes-end w = closes-end w (any_live w.live)

merge_takes-short : (u : MergeState) (k : _) (m : Message) → is_memory (merge_takes u k m).end ≡ is_memory u.end
merge_takes-short u k (Item x) = refl
merge_takes-short u k Mark = refl
merge_takes-short u k (Pick w) = refl
merge_takes-short u k EosMsg = ap is_memory (merge_closes-end (record u { live = slice_set u.live k false }))
merge_takes-short u k AbortMsg = is_memory-spoiled u.end

pub short_merge-step : (u : MergeState) (act : Act) (v : MergeState) → MergeStep u act v → is_memory v.end ≡ true → (is_memory u.end ≡ true) ⊎ LacksBy false act
short_merge-step u (Took k m) v s short = inl (sym (ap (λ w. is_memory w.end) s.2 ∙ merge_takes-short u k m) ∙ short)
short_merge-step u (Gave k m) v s short = inl (sym (ap (λ w. is_memory w.end) s.2) ∙ short)
short_merge-step u Refused v s short = inr tt
short_merge-step u Idle v (inl e) short = inl (sym (ap (λ w. is_memory w.end) e) ∙ short)
short_merge-step u Idle v (inr s) short = inl (sym (ap (λ w. is_memory w.end) s.2) ∙ short)
short_merge-step u Told v s short = absurd (false≢true (sym (ap (λ w. is_memory w.end) s.1) ∙ short))
short_merge-step u (Handed x) v s short = absurd s
