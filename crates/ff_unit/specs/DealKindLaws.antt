-- What no step of a deal changes.
use Rattle.std.specs.Prelude.{◌≡◌, ◌<◌, [], Option, None, Some}
use Rattle.std.proofs.Common.{refl, ap, ap₂, ◌∙◌, inl, inr}
use Rattle.ff_rec.specs.Lines.{Rec}
use Rattle.ff_rec.specs.declared.msg.Msg.TheVariants.{Item, Mark, Pick, Eos as EosMsg, Abort as AbortMsg}
use Rattle.ff_node.specs.Runs.{Message, Act, Took, Gave, Refused, Idle, Told, Handed}
use Rattle.ff_port.specs.declared.answers.End.{End}
use Rattle.ff_port.specs.declared.answers.End.TheVariants.{Eos, Abort, Memory}
use Rattle.ff_unit.specs.Deals.{DealState, DealStep, DealGives, opened_deal, opening_deal, deal_takes, deals, deals_one}
use Rattle.ff_unit.specs.Units.{taken_by, told_by}
use Rattle.ff_unit.specs.declared.dealing.Dealing.{Dealing}
use Rattle.ff_unit.specs.declared.dealing.Dealing.TheVariants.{InTurn, OnDemand, ByKey, GroupsInTurn, GroupsOnDemand}
use Rattle.ff_unit.specs.DealTurnLaws.{next_place-lt}

-- what no message that is taken changes
pub record IsSameDeal (u v : DealState) : Type 0 where
  pub way : v.way ≡ u.way
  pub places : v.places ≡ u.places
  pub done : v.done ≡ u.done
  pub told : v.told ≡ u.told
  pub turn : u.turn < u.places → v.turn < v.places

deals_one-same : (way : Dealing) (u : DealState) (x : Rec) → IsSameDeal u (deals_one way u x)
deals_one-same InTurn u x = record { way = refl; places = refl; done = refl; told = refl; turn = next_place-lt u.places u.turn }
deals_one-same OnDemand u x = record { way = refl; places = refl; done = refl; told = refl; turn = λ h. h }
deals_one-same (ByKey f) u x = record { way = refl; places = refl; done = refl; told = refl; turn = λ h. h }
deals_one-same GroupsInTurn u x = record { way = refl; places = refl; done = refl; told = refl; turn = next_place-lt u.places u.turn }
deals_one-same GroupsOnDemand u x = record { way = refl; places = refl; done = refl; told = refl; turn = λ h. h }

deals-same : (end : End) (u : DealState) (x : Rec) → IsSameDeal u (deals end u x)
deals-same Eos u x = deals_one-same u.way u x
deals-same Abort u x = deals_one-same u.way u x
deals-same Memory u x = record { way = refl; places = refl; done = refl; told = refl; turn = λ h. h }

pub deal_takes-same : (u : DealState) (m : Message) → IsSameDeal u (deal_takes u m)
deal_takes-same u (Item x) = deals-same u.end u x
deal_takes-same u Mark = record { way = refl; places = refl; done = refl; told = refl; turn = λ h. h }
deal_takes-same u (Pick w) = record { way = refl; places = refl; done = refl; told = refl; turn = λ h. h }
deal_takes-same u EosMsg = record { way = refl; places = refl; done = refl; told = refl; turn = λ h. h }
deal_takes-same u AbortMsg = record { way = refl; places = refl; done = refl; told = refl; turn = λ h. h }

-- what was before the first step
pub opening_deal-step : (u : DealState) (act : Act) (v : DealState) → DealStep u act v → opening_deal v ≡ opening_deal u
opening_deal-step u (Took k m) v s =
    let same = deal_takes-same u m in
    ap opening_deal s.4 ∙ ap₂ opened_deal same.way same.places
opening_deal-step u (Gave k m) v s = gives u.free s
  where
    gives : (free : Option Rec) → DealGives free u k m v → opening_deal v ≡ opening_deal u
    gives None h = ap opening_deal h.1
    gives (Some x) h = ap opening_deal h.2
opening_deal-step u Refused v s = ap opening_deal s.1
opening_deal-step u Idle v (inl e) = ap opening_deal e
opening_deal-step u Idle v (inr s) = ap opening_deal s.3
opening_deal-step u Told v s = ap opening_deal s.1
opening_deal-step u (Handed x) v s = absurd s

-- only being told tells it
pub told_deal-step : (u : DealState) (act : Act) (v : DealState) → DealStep u act v → v.told ≡ told_by act u.told
told_deal-step u (Took k m) v s = ap (λ w. w.told) s.4 ∙ (deal_takes-same u m).told
told_deal-step u (Gave k m) v s = gives u.free s
  where
    gives : (free : Option Rec) → DealGives free u k m v → v.told ≡ u.told
    gives None h = ap (λ w. w.told) h.1
    gives (Some x) h = ap (λ w. w.told) h.2
told_deal-step u Refused v s = ap (λ w. w.told) s.1
told_deal-step u Idle v (inl e) = ap (λ w. w.told) e
told_deal-step u Idle v (inr s) = ap (λ w. w.told) s.3
told_deal-step u Told v s = ap (λ w. w.told) s.1
told_deal-step u (Handed x) v s = absurd s

-- nothing is ever taken out
pub taken_deal-step : (u : DealState) (act : Act) (v : DealState) → DealStep u act v → [] ≡ taken_by act []
taken_deal-step u (Took k m) v s = refl
taken_deal-step u (Gave k m) v s = refl
taken_deal-step u Refused v s = refl
taken_deal-step u Idle v s = refl
taken_deal-step u Told v s = refl
taken_deal-step u (Handed x) v s = absurd s
