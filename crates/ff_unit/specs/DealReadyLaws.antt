-- The ports of a deal are as its code asks.
use Rattle.std.specs.Prelude.{◌≡◌, ◌+◌, ◌<◌, ◌≤◌, ℕ, zero, suc, Bool, true, false, List, [], ◌∷◌, length, IsSome}
use Rattle.std.proofs.Common.{sym, ap, ◌∙◌, subst, arith}
use Rattle.std.proofs.lemmas.Bool.{false≢true}
use Rattle.ff_rec.specs.Streams.{IsOpen, at, items}
use Rattle.ff_rec.specs.declared.msg.Msg.TheVariants.{Eos as EosMsg, Abort as AbortMsg}
use Rattle.ff_node.specs.Runs.{Message}
use Rattle.ff_port.specs.declared.answers.End.{End}
use Rattle.ff_port.specs.declared.answers.End.TheVariants.{Eos, Abort, Memory}
use Rattle.ff_unit.specs.Deals.{DealState, DealReady, AreOpenOuts, deal_outs, on_outs}
use Rattle.ff_unit.specs.DealGivesLaws.{AreInner-held}
use Rattle.ff_unit.specs.DealPairLaws.{Pair, IsInner, AreInner, AllByRecursion-front, AllByRecursion-back, IsOpen-on}
use Rattle.ff_unit.specs.DealSentLaws.{sent, place-out, AreInner-sent}
use Rattle.ff_unit.specs.DealTellingLaws.{on-untold}
use Rattle.ff_unit.specs.DealTiedLaws.{IsTelling, TiedLive, TiedAt, IsTied}

-- what is held where each out is open
pub AreOpenOuts-inner : (n : ℕ) (puts : List (List Message)) (held : List Pair) → length puts ≡ n → ((j : ℕ) → j < n → IsOpen (at puts j)) → AreInner n held → AreOpenOuts puts held
AreOpenOuts-inner n puts [] number opens h = tt
AreOpenOuts-inner n puts (pair ∷ held) number opens h = (omega (arith, number, h.0.0), opens pair.0 h.0.0, AreOpenOuts-inner n puts held number opens h.1)

-- what is told on the outs from out `i` on
pub AreOpenOuts-on_outs : (puts : List (List Message)) (i n : ℕ) (m : Message) → i + n ≤ length puts → ((j : ℕ) → i ≤ j → j < i + n → IsOpen (at puts j)) → AreOpenOuts puts (on_outs i n m)
AreOpenOuts-on_outs puts i zero m within opens = tt
AreOpenOuts-on_outs puts i (suc n) m within opens = (
  omega (arith, within),
  opens i (omega arith) (omega arith),
  AreOpenOuts-on_outs puts (suc i) n m (omega (arith, within)) (λ j from below. opens j (omega (arith, from)) (omega (arith, below))),
)

module _ (u : DealState) (gots puts : List (List Message)) (t : IsTied u gots puts) where
  -- while the in gives, each out is open
  open-live : TiedLive u t.got t.given → (j : ℕ) → j < deal_outs u.way u.places → IsOpen (at puts j)
  open-live l j below =
      let outs = deal_outs u.way u.places in
      subst IsOpen (sym (t.puts_are.each j below)) (IsOpen-on outs j t.given (AllByRecursion-front (IsInner outs) t.given u.held (AreInner-held u t.got t.given l)))

  held-live : TiedLive u t.got t.given → AreOpenOuts puts u.held
  held-live l =
      let outs = deal_outs u.way u.places in
      AreOpenOuts-inner outs puts u.held t.puts_are.outs (open-live l) (AllByRecursion-back (IsInner outs) t.given u.held (AreInner-held u t.got t.given l))

  held-telling : (m : Message) (front : List Pair) → AreInner (deal_outs u.way u.places) front → IsTelling (deal_outs u.way u.places) m front t.given u.held
      → AreOpenOuts puts u.held
  held-telling m front inner telling =
      let outs = deal_outs u.way u.places in
      subst (AreOpenOuts puts) (sym telling.are)
      (AreOpenOuts-on_outs puts telling.told telling.left m (omega (arith, telling.all, t.puts_are.outs)) (λ j from within.
      let below : j < outs = omega (arith, within, telling.all) in
      subst IsOpen (sym (t.puts_are.each j below ∙ on-untold outs m front t.given u.held j telling from)) (IsOpen-on outs j front inner)))

  held-at : (live : Bool) (end : End) → TiedAt live end u t.got t.given → AreOpenOuts puts u.held
  held-at true Eos l = held-live l
  held-at true Abort l = absurd l
  held-at true Memory l =
      held-telling AbortMsg l.front (AllByRecursion-front (IsInner (deal_outs u.way u.places)) l.front l.rest
      (subst (AreInner (deal_outs u.way u.places)) l.splits (AreInner-sent u.way u.places l.picks l.xs l.picked.within))) l.telling
  held-at false Eos l =
      held-telling EosMsg (sent u.way u.places l.picks (items l.ms)) (AreInner-sent u.way u.places l.picks (items l.ms) l.picked.within) l.telling
  held-at false Abort l =
      held-telling AbortMsg l.0.front (AllByRecursion-front (IsInner (deal_outs u.way u.places)) l.0.front l.0.rest
      (subst (AreInner (deal_outs u.way u.places)) l.0.splits (AreInner-sent u.way u.places l.0.picks l.0.xs l.0.picked.within))) l.0.telling
  held-at false Memory l =
      held-telling AbortMsg l.front (AllByRecursion-front (IsInner (deal_outs u.way u.places)) l.front l.rest
      (subst (AreInner (deal_outs u.way u.places)) l.splits (AreInner-sent u.way u.places l.picks l.xs l.picked.within))) l.telling

  free-at : (live : Bool) (end : End) → TiedAt live end u t.got t.given → IsSome u.free → (w : ℕ) → w < u.places → IsOpen (at puts w)
  free-at true Eos l some w below = open-live l w (place-out u.way u.places w below)
  free-at true Abort l some w below = absurd l
  free-at true Memory l some w below = absurd (false≢true (subst IsSome l.none some))
  free-at false Eos l some w below = absurd (false≢true (subst IsSome l.none some))
  free-at false Abort l some w below = absurd (false≢true (subst IsSome l.0.none some))
  free-at false Memory l some w below = absurd (false≢true (subst IsSome l.none some))

  pub DealReady-tied : DealReady u gots puts
  DealReady-tied = record {
    one_in = ap length t.gots_are;
    outs = t.puts_are.outs;
    turn = t.turn;
    open_held = held-at u.live u.end t.tied;
    open_free = free-at u.live u.end t.tied;
    ended = t.done;
  }
