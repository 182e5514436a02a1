-- An ordered merge stays tied to its ports when it takes a message.
use Rattle.std.specs.Prelude.{slice_set}
use Rattle.std.proofs.Common.{◌≡◌, ℕ, ◌<◌, ◌≤◌, Bool, false, List, [], ◌++◌, length, refl, sym, ap, ◌∙◌, subst, append-nil}
use Rattle.ff_rec.specs.Streams.{IsOpenMsg, added, carried}
use Rattle.ff_rec.specs.declared.msg.Msg.TheVariants.{Item, Mark, Pick, Eos as EosMsg, Abort as AbortMsg}
use Rattle.ff_node.specs.Runs.{Message}
use Rattle.ff_unit.specs.Closing.{IsLive}
use Rattle.ff_unit.specs.FlagLaws.{any_live-at}
use Rattle.ff_unit.specs.declared.mode.Mode.{Mode}
use Rattle.ff_unit.specs.declared.mode.Mode.TheVariants.{Live, Shut, Cut}
use Rattle.ff_order.specs.OMerges.{OMergeState, omerge_ins, omerge_closes, omerge_cuts, omerge_takes, omerge_gets, omerge_ended, omerge_spoiled, IsDue}
use Rattle.ff_order.specs.OMergeTiedLaws.{ForMerged, Begun, TiedShut, TiedCut, TiedAt, TiedTo, eos_after}
use Rattle.ff_order.specs.PortLaws.{FlagsFit-added, FlagsFit-ended}
use Rattle.ff_order.specs.OMergeBegunLaws.{ForMerged-before, Begun-before, TiedShut-begun}
use Rattle.ff_order.specs.OMergeLiveLaws.{without_held, closes-tied, live_gets, live_ended, live_begun}

module _ (u : OMergeState) (gots : List (List Message)) (p : List Message)
    (some : 1 ≤ u.places) (ins_are : length gots ≡ omerge_ins u.order u.places) (due_in : u.due < omerge_ins u.order u.places) (none : u.held ≡ []) where
  -- the rest of its ins is read
  module _ (k : ℕ) (on : IsLive u.live k) (shut : u.mode ≡ Shut) (t : TiedShut u.order u.places u.live u.end gots (p ++ u.held)) where
    shut_put : p ≡ carried t.ys
    shut_put =
        sym (without_held p u.held none) ∙ t.is ∙ ap (λ b. carried t.ys ++ eos_after b) (any_live-at u.live k on) ∙ append-nil (carried t.ys)

    shut_before : (m : Message) → ForMerged u.order u.places (added gots k m) (λ ins all. all ≡ t.ys)
    shut_before m = ForMerged-before u.order u.places gots k m (λ ins all. all ≡ t.ys) t.exact

    shut_gets : (m : Message) → IsOpenMsg m → TiedTo u (added gots k m) p
    shut_gets m inner =
        rw shut (record { ys = t.ys; is = t.is; ends = t.ends; flags = FlagsFit-added u.live gots k m t.flags on inner; exact = shut_before m })

    shut_ended : TiedTo (omerge_closes (record u { live = slice_set u.live k false })) (added gots k EosMsg) p
    shut_ended =
        closes-tied (record u { live = slice_set u.live k false }) (added gots k EosMsg) p
        (record { ys = t.ys; is = shut_put; ends = t.ends; flags = FlagsFit-ended u.live gots k t.flags on }) none (shut_before EosMsg)

    shut_begun : Begun u.order u.places gots p
    shut_begun =
        subst (Begun u.order u.places gots) (sym shut_put) (TiedShut-begun u.order u.places u.live u.end gots (p ++ u.held) t)

  -- it was cut off, or is
  cut_gets : (m : Message) (k : ℕ) (live : List Bool) → u.mode ≡ Cut → TiedCut u.order u.places u.end gots (p ++ u.held)
      → TiedTo (record u { live = live }) (added gots k m) p
  cut_gets m k live cut t = rw cut (record { before = t.before; begun = Begun-before u.order u.places gots k m t.before t.begun; is = t.is; ends = t.ends })

  cuts : (k : ℕ) (live : List Bool) → Begun u.order u.places gots p → TiedTo (omerge_cuts (record u { live = live })) (added gots k AbortMsg) p
  cuts k live begun = record { before = p; begun = Begun-before u.order u.places gots k AbortMsg p begun; is = refl; ends = λ e. absurd (cc) }

  -- a message behind which others may come, in any mode
  gets : (mode : Mode) (k : ℕ) (m : Message) → u.mode ≡ mode → IsLive u.live k → IsDue mode u.due k → IsOpenMsg m
      → TiedAt mode u.order u.places u.due u.live u.end gots (p ++ u.held) → TiedTo (omerge_gets mode u m) (added gots k m) p
  gets Live k m is on due inner t = subst (λ k. TiedTo (omerge_gets Live u m) (added gots k m) p) (sym due) (live_gets u gots p some ins_are due_in none is t m inner)
  gets Shut k m is on due inner t = shut_gets k on is t m inner
  gets Cut k m is on due inner t = cut_gets m k u.live is t

  -- in `k` ends
  ended : (mode : Mode) (k : ℕ) → u.mode ≡ mode → IsLive u.live k → IsDue mode u.due k
      → TiedAt mode u.order u.places u.due u.live u.end gots (p ++ u.held)
      → TiedTo (omerge_ended mode (record u { live = slice_set u.live k false })) (added gots k EosMsg) p
  ended Live k is on due t =
      subst (λ k. TiedTo (omerge_closes (record u { live = slice_set u.live k false })) (added gots k EosMsg) p) (sym due) (live_ended u gots p some ins_are due_in none is t)
  ended Shut k is on due t = shut_ended k on is t
  ended Cut k is on due t = cut_gets EosMsg k (slice_set u.live k false) is t

  spoiled : (mode : Mode) (k : ℕ) → u.mode ≡ mode → IsLive u.live k → TiedAt mode u.order u.places u.due u.live u.end gots (p ++ u.held)
      → TiedTo (omerge_spoiled mode (record u { live = slice_set u.live k false })) (added gots k AbortMsg) p
  spoiled Live k is on t = cuts k (slice_set u.live k false) (live_begun u gots p some ins_are due_in none is t)
  spoiled Shut k is on t = cuts k (slice_set u.live k false) (shut_begun k on is t)
  spoiled Cut k is on t = cut_gets AbortMsg k (slice_set u.live k false) is t

  -- any message
  pub omerge_takes-tied : (k : ℕ) (m : Message) → IsLive u.live k → IsDue u.mode u.due k → TiedTo u gots p → TiedTo (omerge_takes u k m) (added gots k m) p
  omerge_takes-tied k (Item x) on due t = gets u.mode k (Item x) refl on due tt t
  omerge_takes-tied k Mark on due t = gets u.mode k Mark refl on due tt t
  omerge_takes-tied k (Pick w) on due t = gets u.mode k (Pick w) refl on due tt t
  omerge_takes-tied k EosMsg on due t = ended u.mode k refl on due t
  omerge_takes-tied k AbortMsg on due t = spoiled u.mode k refl on t
