-- An ordered merge: its state, how it steps, and what it does as a unit.
use Rattle.std.specs.Prelude.{◌≡◌, ◌≢◌, ◌⊎◌, ◌<◌, ◌≤◌, nat_lt, ℕ, suc, Bool, true, false, if◌then◌else◌, List, [], ◌∷◌, length, slice_index, slice_set}
use Rattle.ff_rec.specs.Streams.{IsOpen, at}
use Rattle.ff_rec.specs.declared.msg.Msg.TheVariants.{Item, Mark, Pick, Eos as EosMsg, Abort as AbortMsg}
use Rattle.ff_node.specs.Fits.{FitsTurnMerge, FitsPickMerge}
use Rattle.ff_node.specs.Runs.{Message, Act, Took, Gave, Refused, Idle, Told, Handed, BeginsToFit}
use Rattle.ff_port.specs.declared.answers.End.{End}
use Rattle.ff_port.specs.declared.answers.End.TheVariants.{Eos, Abort, Memory}
use Rattle.ff_unit.specs.Closing.{IsLive, any_live, all_live, none_live, decided, AllDry, is_memory}
use Rattle.ff_unit.specs.Deals.{next_place}
use Rattle.ff_unit.specs.StageSteps.{IsOpenFront}
use Rattle.ff_unit.specs.Units.{Doing, Known}
use Rattle.ff_unit.specs.declared.mode.Mode.{Mode}
use Rattle.ff_unit.specs.declared.mode.Mode.TheVariants.{Live, Shut, Cut}
use Rattle.ff_order.specs.declared.order.Order.{Order}
use Rattle.ff_order.specs.declared.order.Order.TheVariants.{InTurn, ByPick}

pub record OMergeState : Type 0 where
  -- whose group comes next: in turn, or by the picks that its last in gives, of so many places
  pub order : Order
  pub places : ℕ
  -- the in that is due: a place, or the in of the picks
  pub due : ℕ
  -- for each in, whether it still gives
  pub live : List Bool
  -- what is to be put: one message at most
  pub held : List Message
  -- whether it merges, reads the rest of its ins behind its last group, or was cut off
  pub mode : Mode
  -- how it will end, as things stand
  pub end : End
  -- whether it has ended, and whether it was told to abort
  pub done : Bool
  pub told : Bool

-- how many ins it has: one more for the picks
abbrev pub omerge_ins : Order → ℕ → ℕ
omerge_ins InTurn n = n
omerge_ins ByPick n = suc n

-- the in that is due at first, and after a group of place `w`
abbrev pub first_due : Order → ℕ → ℕ
first_due InTurn n = 0
first_due ByPick n = n

abbrev pub next_due : Order → ℕ → ℕ → ℕ
next_due InTurn n w = next_place n w
next_due ByPick n w = n

-- an ordered merge that made no step
abbrev pub opened_omerge : Order → ℕ → OMergeState
opened_omerge order n = record {
  order = order;
  places = n;
  due = first_due order n;
  live = all_live (omerge_ins order n);
  held = [];
  mode = Live;
  end = Eos;
  done = false;
  told = false;
}

abbrev pub opening_omerge : OMergeState → OMergeState
opening_omerge u = opened_omerge u.order u.places

-- a merge that is cut off by an Abort: it tells at once
abbrev pub omerge_cuts : OMergeState → OMergeState
omerge_cuts u = record u { held = AbortMsg ∷ []; mode = Cut; end = Abort }

-- once no in gives any more, Eos is held
abbrev pub omerge_closes : OMergeState → OMergeState
omerge_closes u = if any_live u.live then record u { mode = Shut } else record u { held = EosMsg ∷ []; mode = Shut }

-- it gets a message of the in of the picks, or of a group; others than those that may come there are dropped
abbrev pub gets_pick : OMergeState → Message → OMergeState
gets_pick u (Item x) = u
gets_pick u Mark = u
gets_pick u (Pick w) = if nat_lt w u.places then record u { due = w } else u
gets_pick u EosMsg = u
gets_pick u AbortMsg = u

abbrev pub gets_group : OMergeState → Message → OMergeState
gets_group u (Item x) = record u { held = Item x ∷ [] }
gets_group u Mark = record u { due = next_due u.order u.places u.due }
gets_group u (Pick w) = u
gets_group u EosMsg = u
gets_group u AbortMsg = u

-- a message that isn't the last of its in, by the mode
abbrev pub omerge_gets : Mode → OMergeState → Message → OMergeState
omerge_gets Live u m = if nat_lt u.due u.places then gets_group u m else gets_pick u m
omerge_gets Shut u m = u
omerge_gets Cut u m = u

-- in `k` ended: by Eos, or by Abort
abbrev pub omerge_ended : Mode → OMergeState → OMergeState
omerge_ended Live u = omerge_closes u
omerge_ended Shut u = omerge_closes u
omerge_ended Cut u = u

abbrev pub omerge_spoiled : Mode → OMergeState → OMergeState
omerge_spoiled Live u = omerge_cuts u
omerge_spoiled Shut u = omerge_cuts u
omerge_spoiled Cut u = u

-- a message is taken at in `k`
abbrev pub omerge_takes : OMergeState → ℕ → Message → OMergeState
omerge_takes u k (Item x) = omerge_gets u.mode u (Item x)
omerge_takes u k Mark = omerge_gets u.mode u Mark
omerge_takes u k (Pick w) = omerge_gets u.mode u (Pick w)
omerge_takes u k EosMsg = omerge_ended u.mode (record u { live = slice_set u.live k false })
omerge_takes u k AbortMsg = omerge_spoiled u.mode (record u { live = slice_set u.live k false })

-- while it merges it takes from the in that is due, and afterwards from any
abbrev pub IsDue : Mode → ℕ → ℕ → Type 0
IsDue Live due k = k ≡ due
IsDue Shut due k = Unit {0}
IsDue Cut due k = Unit {0}

-- one act of an ordered merge: it puts what it holds, or takes from a live in
abbrev pub OMergeStep : OMergeState → Act → OMergeState → Type 0
OMergeStep u (Took k m) v = (u.held ≡ []) × IsLive u.live k × IsDue u.mode u.due k × (v ≡ omerge_takes u k m)
OMergeStep u (Gave k m) v = (k ≡ 0) × (u.held ≡ m ∷ v.held) × (v ≡ record u { held = v.held })
OMergeStep u Refused v = IsOpenFront u.held × (v ≡ record u { held = AbortMsg ∷ []; mode = Cut; end = Memory })
OMergeStep u Idle v = (v ≡ u) ⊎ ((u.held ≡ []) × (any_live u.live ≡ false) × (v ≡ record u { done = true }))
OMergeStep u Told v =
    (u ≡ opening_omerge u)
    × (v ≡ record u { live = none_live (omerge_ins u.order u.places); held = AbortMsg ∷ []; mode = Cut; end = Abort; told = true })
OMergeStep u (Handed x) v = ⊥

-- its flags are those of its ins, and while it merges each of them is live; while something is held, neither Eos nor Abort was put; one that
-- has ended holds nothing
pub record OMergeReady (u : OMergeState) (gots puts : List (List Message)) : Type 0 where
  pub ins : length gots ≡ omerge_ins u.order u.places
  pub flags : length u.live ≡ omerge_ins u.order u.places
  pub one_out : length puts ≡ 1
  pub due : u.due < omerge_ins u.order u.places
  pub merging : u.mode ≡ Live → IsLive u.live u.due
  pub open_out : (u.held ≡ []) ⊎ IsOpen (at puts 0)
  pub ended : u.done ≡ true → (u.held ≡ []) × (any_live u.live ≡ false)

-- the in that was due gave nothing, or no live one
abbrev pub GaveNothing : Mode → ℕ → List Bool → Known → Known → Type 0
GaveNothing Live due live before after = (slice_index before.knowns due ≡ 0) × (slice_index after.knowns due ≡ 0)
GaveNothing Shut due live before after = AllDry live before after
GaveNothing Cut due live before after = AllDry live before after

-- the port that was due: the out had no room, something still waits to be handed over, or nothing was given
abbrev pub OMergeStalls : List Message → Bool → OMergeState → Known → Known → Type 0
OMergeStalls (m ∷ held) goes_on u before after = (slice_index before.rooms 0 ≡ 0) × (slice_index after.rooms 0 ≡ 0)
OMergeStalls [] true u before after = GaveNothing u.mode u.due u.live before after
OMergeStalls [] false u before after = after.waiting ≢ 0

-- what it fits
abbrev pub FitsOMerge : Order → ℕ → List (List Message) → List (List Message) → Type 0
FitsOMerge InTurn n ins outs = FitsTurnMerge n ins outs
FitsOMerge ByPick n ins outs = FitsPickMerge n ins outs

-- one that was told to abort before its first step
abbrev pub aborted_omerge : OMergeState → OMergeState
aborted_omerge u = record u { live = none_live (omerge_ins u.order u.places); mode = Cut; end = Abort; done = true; told = true }

-- what an ordered merge does
abbrev pub omerge_does : Doing OMergeState
omerge_does = record {
  Made = λ u. (1 ≤ u.places) × (u.places ≤ 64);
  opening = opening_omerge;
  ins = λ u. omerge_ins u.order u.places;
  outs = λ u. 1;
  Rests = λ u. u.held ≡ [];
  fin = λ u. decided (any_live u.live) u.end;
  done = λ u. u.done;
  told = λ u. u.told;
  aborted = aborted_omerge;
  short = λ u. is_memory u.end;
  asks = λ u. false;
  rejects = λ u. 0;
  keeps = λ u. false;
  kept = λ u. [];
  taken = λ u. [];
  Steps = OMergeStep;
  Ready = OMergeReady;
  Stalls = λ u before after. OMergeStalls u.held (any_live u.live) u before after;
  Fits = λ u. FitsOMerge u.order u.places;
  Begins = λ u gots puts. BeginsToFit (FitsOMerge u.order u.places) gots puts;
  rejected = λ u gots. [];
}
