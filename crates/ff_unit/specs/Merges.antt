-- A merge: its state, how it steps, and what it does as a unit.
use Rattle.std.specs.Prelude.{◌≡◌, ◌≢◌, ◌⊎◌, ◌≤◌, ℕ, Bool, true, false, if◌then◌else◌, List, [], ◌∷◌, length, slice_index, slice_set}
use Rattle.ff_rec.specs.Lines.{Rec}
use Rattle.ff_rec.specs.Streams.{IsOpen, at}
use Rattle.ff_rec.specs.declared.msg.Msg.TheVariants.{Item, Mark, Pick, Eos as EosMsg, Abort as AbortMsg}
use Rattle.ff_node.specs.Fits.{FitsMerge}
use Rattle.ff_node.specs.Runs.{Message, Act, Took, Gave, Refused, Idle, Told, Handed, BeginsToFit}
use Rattle.ff_port.specs.declared.answers.End.{End}
use Rattle.ff_port.specs.declared.answers.End.TheVariants.{Eos, Abort, Memory}
use Rattle.ff_unit.specs.Closing.{IsLive, any_live, all_live, none_live, spoiled, decided, told_first, told_well, AllDry, is_memory}
use Rattle.ff_unit.specs.StageSteps.{IsOpenFront}
use Rattle.ff_unit.specs.Units.{Doing, Known}

pub record MergeState : Type 0 where
  -- for each in, whether it still gives
  pub live : List Bool
  -- what is to be put: one message at most
  pub held : List Message
  -- how it will end, as things stand
  pub end : End
  -- whether it has ended, and whether it was told to abort
  pub done : Bool
  pub told : Bool

-- a merge of so many ins that made no step
abbrev pub opened_merge : ℕ → MergeState
opened_merge n = record { live = all_live n; held = []; end = Eos; done = false; told = false }

abbrev pub opening_merge : MergeState → MergeState
opening_merge u = opened_merge (length u.live)

-- a record goes on to the out while all goes well
abbrev pub forwarded : End → Rec → List Message
forwarded Eos x = Item x ∷ []
forwarded Abort x = []
forwarded Memory x = []

-- once no in gives any more, its end is told, unless it was before
abbrev pub merge_closes : MergeState → MergeState
merge_closes u = if any_live u.live then u else record u { held = told_well u.end }

-- a message is taken at in `k`: an Abort is told at once, and others than records, Eos and Abort are dropped
abbrev pub merge_takes : MergeState → ℕ → Message → MergeState
merge_takes u k (Item x) = record u { held = forwarded u.end x }
merge_takes u k Mark = u
merge_takes u k (Pick w) = u
merge_takes u k EosMsg = merge_closes (record u { live = slice_set u.live k false })
merge_takes u k AbortMsg = record u { live = slice_set u.live k false; held = told_first u.end; end = spoiled u.end }

-- one act of a merge: it puts what it holds, or takes from a live in
abbrev pub MergeStep : MergeState → Act → MergeState → Type 0
MergeStep u (Took k m) v = (u.held ≡ []) × IsLive u.live k × (v ≡ merge_takes u k m)
MergeStep u (Gave k m) v = (k ≡ 0) × (u.held ≡ m ∷ v.held) × (v ≡ record u { held = v.held })
MergeStep u Refused v = IsOpenFront u.held × (v ≡ record u { held = AbortMsg ∷ []; end = Memory })
MergeStep u Idle v = (v ≡ u) ⊎ ((u.held ≡ []) × (any_live u.live ≡ false) × (v ≡ record u { done = true }))
MergeStep u Told v = (u ≡ opening_merge u) × (v ≡ record u { live = none_live (length u.live); held = AbortMsg ∷ []; end = Abort; told = true })
MergeStep u (Handed x) v = ⊥

-- its flags are those of its ins, and while something is held, neither Eos nor Abort was put; one that has ended holds nothing
pub record MergeReady (u : MergeState) (gots puts : List (List Message)) : Type 0 where
  pub ins : length gots ≡ length u.live
  pub one_out : length puts ≡ 1
  pub open_out : (u.held ≡ []) ⊎ IsOpen (at puts 0)
  pub ended : u.done ≡ true → (u.held ≡ []) × (any_live u.live ≡ false)

-- the port that was due: the out had no room, something still waits to be handed over, or no live in gave anything
abbrev pub MergeStalls : List Message → Bool → List Bool → Known → Known → Type 0
MergeStalls (m ∷ held) goes_on live before after = (slice_index before.rooms 0 ≡ 0) × (slice_index after.rooms 0 ≡ 0)
MergeStalls [] true live before after = AllDry live before after
MergeStalls [] false live before after = after.waiting ≢ 0

-- one that was told to abort before its first step
abbrev pub aborted_merge : MergeState → MergeState
aborted_merge u = record u { live = none_live (length u.live); end = Abort; done = true; told = true }

-- what a merge does
abbrev pub merge_does : Doing MergeState
merge_does = record {
  Made = λ u. (1 ≤ length u.live) × (length u.live ≤ 64);
  opening = opening_merge;
  ins = λ u. length u.live;
  outs = λ u. 1;
  Rests = λ u. u.held ≡ [];
  fin = λ u. decided (any_live u.live) u.end;
  done = λ u. u.done;
  told = λ u. u.told;
  aborted = aborted_merge;
  short = λ u. is_memory u.end;
  asks = λ u. false;
  rejects = λ u. 0;
  keeps = λ u. false;
  kept = λ u. [];
  taken = λ u. [];
  Steps = MergeStep;
  Ready = MergeReady;
  Stalls = λ u before after. MergeStalls u.held (any_live u.live) u.live before after;
  Fits = λ u. FitsMerge (length u.live);
  Begins = λ u gots puts. BeginsToFit (FitsMerge (length u.live)) gots puts;
  rejected = λ u gots. [];
}
