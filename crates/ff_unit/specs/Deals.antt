-- A deal: its state, how it steps, and what it does as a unit.
use Rattle.std.specs.Prelude.{◌≡◌, ◌≢◌, ◌⊎◌, ◌<◌, ◌≤◌, ◌==◌, ℕ, zero, suc, Bool, true, false, if◌then◌else◌, List, [], ◌∷◌, length, slice_index, Option, None, Some, IsSome}
use Rattle.ff_rec.specs.Fields.{field_at}
use Rattle.ff_rec.specs.Lines.{Rec}
use Rattle.ff_rec.specs.Streams.{IsOpen, at}
use Rattle.ff_rec.specs.declared.msg.Msg.TheVariants.{Item, Mark, Pick, Eos as EosMsg, Abort as AbortMsg}
use Rattle.ff_node.specs.Fits.{FitsStrictDeal, FitsKeyDeal, FitsFreeDeal, FitsStrictODeal, FitsFreeODeal}
use Rattle.ff_node.specs.Picks.{place_of}
use Rattle.ff_node.specs.Runs.{Message, Act, Took, Gave, Refused, Idle, Told, Handed, BeginsToFit}
use Rattle.ff_port.specs.declared.answers.End.{End}
use Rattle.ff_port.specs.declared.answers.End.TheVariants.{Eos, Abort, Memory}
use Rattle.ff_unit.specs.Closing.{spoiled, decided, told_last, is_memory}
use Rattle.ff_unit.specs.StageSteps.{IsOpenFront}
use Rattle.ff_unit.specs.Units.{Doing, Known}
use Rattle.ff_unit.specs.declared.dealing.Dealing.{Dealing}
use Rattle.ff_unit.specs.declared.dealing.Dealing.TheVariants.{InTurn, OnDemand, ByKey, GroupsInTurn, GroupsOnDemand}

pub record DealState : Type 0 where
  -- how it chooses, between how many places
  pub way : Dealing
  pub places : ℕ
  -- the place whose turn it is
  pub turn : ℕ
  -- a record that may go to any place
  pub free : Option Rec
  -- what is to be put, each message with its out
  pub held : List (ℕ × Message)
  -- whether its in still gives, and how it will end, as things stand
  pub live : Bool
  pub end : End
  -- whether it has ended, and whether it was told to abort
  pub done : Bool
  pub told : Bool

-- a deal that made no step
abbrev pub opened_deal : Dealing → ℕ → DealState
opened_deal way n = record { way = way; places = n; turn = 0; free = None; held = []; live = true; end = Eos; done = false; told = false }

abbrev pub opening_deal : DealState → DealState
opening_deal u = opened_deal u.way u.places

-- how many outs it has: one more where it tells which outs it chose
abbrev pub deal_outs : Dealing → ℕ → ℕ
deal_outs InTurn n = n
deal_outs OnDemand n = n
deal_outs (ByKey f) n = n
deal_outs GroupsInTurn n = n
deal_outs GroupsOnDemand n = suc n

-- what follows a record that went to out `w`: the Mark of its group, and which out it was
abbrev pub behind : Dealing → ℕ → ℕ → List (ℕ × Message)
behind InTurn n w = []
behind OnDemand n w = []
behind (ByKey f) n w = []
behind GroupsInTurn n w = (w, Mark) ∷ []
behind GroupsOnDemand n w = (w, Mark) ∷ (n, Pick w) ∷ []

-- the place after this one, round and round
abbrev pub next_place : ℕ → ℕ → ℕ
next_place n w = if suc w == n then 0 else suc w

-- the messages on every out, from out `k` on
abbrev pub on_outs : ℕ → ℕ → Message → List (ℕ × Message)
on_outs k zero m = []
on_outs k (suc n) m = (k, m) ∷ on_outs (suc k) n m

-- what is told on every out at the end
abbrev pub on_all : ℕ → List Message → List (ℕ × Message)
on_all n [] = []
on_all n (m ∷ ms) = on_outs 0 n m

abbrev pub deal_ends : DealState → End → DealState
deal_ends u end = record u { held = on_all (deal_outs u.way u.places) (told_last end); live = false; end = end }

-- a record goes to a place, or waits for one with room
abbrev pub deals_one : Dealing → DealState → Rec → DealState
deals_one InTurn u x = record u { held = (u.turn, Item x) ∷ []; turn = next_place u.places u.turn }
deals_one OnDemand u x = record u { free = Some x }
deals_one (ByKey f) u x = record u { held = (place_of (field_at f x) u.places, Item x) ∷ [] }
deals_one GroupsInTurn u x = record u { held = (u.turn, Item x) ∷ (u.turn, Mark) ∷ []; turn = next_place u.places u.turn }
deals_one GroupsOnDemand u x = record u { free = Some x }

-- for want of memory records are dropped
abbrev pub deals : End → DealState → Rec → DealState
deals Eos u x = deals_one u.way u x
deals Abort u x = deals_one u.way u x
deals Memory u x = u

-- a message is taken; others than records, Eos and Abort are dropped
abbrev pub deal_takes : DealState → Message → DealState
deal_takes u (Item x) = deals u.end u x
deal_takes u Mark = u
deal_takes u (Pick w) = u
deal_takes u EosMsg = deal_ends u u.end
deal_takes u AbortMsg = deal_ends u (spoiled u.end)

-- some message is held that may be refused for want of memory
abbrev pub MayBeRefused : Option Rec → List (ℕ × Message) → Type 0
MayBeRefused (Some x) held = Unit {0}
MayBeRefused None [] = ⊥
MayBeRefused None (pair ∷ held) = IsOpenFront (pair.1 ∷ [])

-- a held message goes to its out, or a free record to some place
abbrev pub DealGives : Option Rec → DealState → ℕ → Message → DealState → Type 0
DealGives None u k m v = (u.held ≡ (k, m) ∷ v.held) × (v ≡ record u { held = v.held })
DealGives (Some x) u k m v = (m ≡ Item x) × (k < u.places) × (v ≡ record u { free = None; held = behind u.way u.places k })

-- one act of a deal: it puts what it holds, or takes while its in still gives
abbrev pub DealStep : DealState → Act → DealState → Type 0
DealStep u (Took k m) v = (k ≡ 0) × (u.free ≡ None) × (u.held ≡ []) × (u.live ≡ true) × (v ≡ deal_takes u m)
DealStep u (Gave k m) v = DealGives u.free u k m v
DealStep u Refused v =
    MayBeRefused u.free u.held
    × (v ≡ record u { free = None; held = on_all (deal_outs u.way u.places) (AbortMsg ∷ []); end = Memory })
DealStep u Idle v = (v ≡ u) ⊎ ((u.free ≡ None) × (u.held ≡ []) × (u.live ≡ false) × (v ≡ record u { done = true }))
DealStep u Told v =
    (u ≡ opening_deal u)
    × (v ≡ record u { held = on_all (deal_outs u.way u.places) (AbortMsg ∷ []); live = false; end = Abort; told = true })
DealStep u (Handed x) v = ⊥

-- the outs of what is held were given neither Eos nor Abort
abbrev pub AreOpenOuts : List (List Message) → List (ℕ × Message) → Type 0
AreOpenOuts puts [] = Unit {0}
AreOpenOuts puts (pair ∷ held) = (pair.0 < length puts) × IsOpen (at puts pair.0) × AreOpenOuts puts held

-- one in, and its outs; what it holds can be put, and while it holds a record, or while its in gives, no out was told its end but for
-- want of memory; one that has ended holds nothing
pub record DealReady (u : DealState) (gots puts : List (List Message)) : Type 0 where
  pub one_in : length gots ≡ 1
  pub outs : length puts ≡ deal_outs u.way u.places
  pub turn : u.turn < u.places
  pub open_held : AreOpenOuts puts u.held
  pub open_free : IsSome u.free → (w : ℕ) → w < u.places → IsOpen (at puts w)
  pub ended : u.done ≡ true → (u.free ≡ None) × (u.held ≡ []) × (u.live ≡ false)

-- the port that was due: no place had room, or not the out of what is held first, something still waits to be handed over, or the in
-- gave nothing
abbrev pub DealStalls : Option Rec → List (ℕ × Message) → Bool → ℕ → Known → Known → Type 0
DealStalls (Some x) held live n before after = (w : ℕ) → w < n → (slice_index before.rooms w ≡ 0) × (slice_index after.rooms w ≡ 0)
DealStalls None (pair ∷ held) live n before after = (slice_index before.rooms pair.0 ≡ 0) × (slice_index after.rooms pair.0 ≡ 0)
DealStalls None [] true n before after = (slice_index before.knowns 0 ≡ 0) × (slice_index after.knowns 0 ≡ 0)
DealStalls None [] false n before after = after.waiting ≢ 0

-- what it fits
abbrev pub FitsDeal : Dealing → ℕ → List (List Message) → List (List Message) → Type 0
FitsDeal InTurn n ins outs = FitsStrictDeal n ins outs
FitsDeal OnDemand n ins outs = FitsFreeDeal n ins outs
FitsDeal (ByKey f) n ins outs = FitsKeyDeal f n ins outs
FitsDeal GroupsInTurn n ins outs = FitsStrictODeal n ins outs
FitsDeal GroupsOnDemand n ins outs = FitsFreeODeal n ins outs

-- one that was told to abort before its first step
abbrev pub aborted_deal : DealState → DealState
aborted_deal u = record u { live = false; end = Abort; done = true; told = true }

-- what a deal does
abbrev pub deal_does : Doing DealState
deal_does = record {
  Made = λ u. (1 ≤ u.places) × (u.places ≤ 64);
  opening = opening_deal;
  ins = λ u. 1;
  outs = λ u. deal_outs u.way u.places;
  Rests = λ u. (u.free ≡ None) × (u.held ≡ []);
  fin = λ u. decided u.live u.end;
  done = λ u. u.done;
  told = λ u. u.told;
  aborted = aborted_deal;
  short = λ u. is_memory u.end;
  asks = λ u. false;
  rejects = λ u. 0;
  keeps = λ u. false;
  kept = λ u. [];
  taken = λ u. [];
  Steps = DealStep;
  Ready = DealReady;
  Stalls = λ u before after. DealStalls u.free u.held u.live u.places before after;
  Fits = λ u. FitsDeal u.way u.places;
  Begins = λ u gots puts. BeginsToFit (FitsDeal u.way u.places) gots puts;
  rejected = λ u gots. [];
}
