-- What an ordered merge keeps of its state when it takes a message.
use Rattle.std.specs.Prelude.{slice_set}
use Rattle.std.proofs.Common.{◌≡◌, ◌⊎◌, ℕ, suc, ◌<◌, ◌≤◌, Bool, true, false, cond, ltb, [], ◌∷◌, length, refl, arith, inl, inr, length-set, lt-ltb, le-ltb, eq-eqb, ne_eqb}
use Rattle.std.proofs.lemmas.Bool.{cases_eq, cases_lt}
use Rattle.ff_rec.specs.declared.msg.Msg.TheVariants.{Item, Mark, Pick, Eos as EosMsg, Abort as AbortMsg}
use Rattle.ff_node.specs.Runs.{Message}
use Rattle.ff_port.specs.declared.answers.End.TheVariants.{Abort}
use Rattle.ff_unit.specs.Closing.{any_live}
use Rattle.ff_unit.specs.Deals.{next_place}
use Rattle.ff_unit.specs.declared.mode.Mode.{Mode}
use Rattle.ff_unit.specs.declared.mode.Mode.TheVariants.{Live, Shut, Cut}
use Rattle.ff_order.specs.OMerges.{OMergeState, omerge_ins, next_due, omerge_closes, omerge_cuts, omerge_takes, omerge_gets, omerge_ended, omerge_spoiled, gets_group, gets_pick}
use Rattle.ff_order.specs.declared.order.Order.{Order}
use Rattle.ff_order.specs.declared.order.Order.TheVariants.{InTurn, ByPick}

-- what stays where message `m` is taken
pub record IsKept (m : Message) (u v : OMergeState) : Type 0 where
  pub order : v.order ≡ u.order
  pub places : v.places ≡ u.places
  pub lives : length v.live ≡ length u.live
  pub done : v.done ≡ u.done
  pub told : v.told ≡ u.told
  pub due : 1 ≤ u.places → u.due < omerge_ins u.order u.places → v.due < omerge_ins u.order u.places
  pub cause : v.end ≡ Abort → (u.end ≡ Abort) ⊎ (m ≡ AbortMsg)

-- the place that is due next is one of them
next_due-within : (order : Order) (n w : ℕ) → 1 ≤ n → w < omerge_ins order n → next_due order n w < omerge_ins order n
next_due-within InTurn n w some below = by (cases_eq (suc w) n)
  where
    by : (suc w ≡ n) ⊎ (suc w ≡ n → ⊥) → next_place n w < n
    by (inl e) = rw (eq-eqb (suc w) n e) (omega arith)
    by (inr ne) = rw (ne_eqb (suc w) n ne) (omega (arith, ne))
next_due-within ByPick n w some below = omega arith

place-within : (order : Order) (n w : ℕ) → w < n → w < omerge_ins order n
place-within InTurn n w below = below
place-within ByPick n w below = omega arith

IsKept-same : (m : Message) (u : OMergeState) → IsKept m u u
IsKept-same m u = record { order = refl; places = refl; lives = refl; done = refl; told = refl; due = λ some h. h; cause = λ e. inl e }

IsKept-if : (m : Message) (u v w : OMergeState) (b : Bool) → IsKept m u v → IsKept m u w → IsKept m u (cond b v w)
IsKept-if m u v w true left right = left
IsKept-if m u v w false left right = right

-- its flags alone, or those and its ways
closed-kept : (m : Message) (u : OMergeState) (k : ℕ) → IsKept m u (record u { live = slice_set u.live k false })
closed-kept m u k = record {
  order = refl;
  places = refl;
  lives = length-set u.live k false;
  done = refl;
  told = refl;
  due = λ some h. h;
  cause = λ e. inl e;
}

omerge_closes-kept : (u : OMergeState) (k : ℕ) → IsKept EosMsg u (omerge_closes (record u { live = slice_set u.live k false }))
omerge_closes-kept u k =
    let c = closed-kept EosMsg u k in
    IsKept-if EosMsg u (record u { live = slice_set u.live k false; mode = Shut }) (record u { live = slice_set u.live k false; held = EosMsg ∷ []; mode = Shut })
    (any_live (slice_set u.live k false))
    (record { order = refl; places = refl; lives = c.lives; done = refl; told = refl; due = c.due; cause = c.cause })
    (record { order = refl; places = refl; lives = c.lives; done = refl; told = refl; due = c.due; cause = c.cause })

omerge_cuts-kept : (u : OMergeState) (k : ℕ) → IsKept AbortMsg u (omerge_cuts (record u { live = slice_set u.live k false }))
omerge_cuts-kept u k = record {
  order = refl;
  places = refl;
  lives = length-set u.live k false;
  done = refl;
  told = refl;
  due = λ some h. h;
  cause = λ e. inr refl;
}

gets_group-kept : (u : OMergeState) (m : Message) → IsKept m u (gets_group u m)
gets_group-kept u (Item x) = record { order = refl; places = refl; lives = refl; done = refl; told = refl; due = λ some h. h; cause = λ e. inl e }
gets_group-kept u Mark = record {
  order = refl;
  places = refl;
  lives = refl;
  done = refl;
  told = refl;
  due = λ some h. next_due-within u.order u.places u.due some h;
  cause = λ e. inl e;
}
gets_group-kept u (Pick w) = IsKept-same (Pick w) u
gets_group-kept u EosMsg = IsKept-same EosMsg u
gets_group-kept u AbortMsg = IsKept-same AbortMsg u

gets_pick-kept : (u : OMergeState) (m : Message) → IsKept m u (gets_pick u m)
gets_pick-kept u (Item x) = IsKept-same (Item x) u
gets_pick-kept u Mark = IsKept-same Mark u
gets_pick-kept u (Pick w) = by (cases_lt w u.places)
  where
    by : (w < u.places) ⊎ (u.places ≤ w) → IsKept (Pick w) u (gets_pick u (Pick w))
    by (inl below) = rw (lt-ltb w u.places below) (record {
      order = refl;
      places = refl;
      lives = refl;
      done = refl;
      told = refl;
      due = λ some h. place-within u.order u.places w below;
      cause = λ e. inl e;
    })
    by (inr beyond) = rw (le-ltb w u.places beyond) (IsKept-same (Pick w) u)
gets_pick-kept u EosMsg = IsKept-same EosMsg u
gets_pick-kept u AbortMsg = IsKept-same AbortMsg u

omerge_gets-kept : (mode : Mode) (u : OMergeState) (m : Message) → IsKept m u (omerge_gets mode u m)
omerge_gets-kept Live u m = IsKept-if m u (gets_group u m) (gets_pick u m) (ltb u.due u.places) (gets_group-kept u m) (gets_pick-kept u m)
omerge_gets-kept Shut u m = IsKept-same m u
omerge_gets-kept Cut u m = IsKept-same m u

omerge_ended-kept : (mode : Mode) (u : OMergeState) (k : ℕ) → IsKept EosMsg u (omerge_ended mode (record u { live = slice_set u.live k false }))
omerge_ended-kept Live u k = omerge_closes-kept u k
omerge_ended-kept Shut u k = omerge_closes-kept u k
omerge_ended-kept Cut u k = closed-kept EosMsg u k

omerge_spoiled-kept : (mode : Mode) (u : OMergeState) (k : ℕ) → IsKept AbortMsg u (omerge_spoiled mode (record u { live = slice_set u.live k false }))
omerge_spoiled-kept Live u k = omerge_cuts-kept u k
omerge_spoiled-kept Shut u k = omerge_cuts-kept u k
omerge_spoiled-kept Cut u k = closed-kept AbortMsg u k

pub omerge_takes-kept : (u : OMergeState) (k : ℕ) (m : Message) → IsKept m u (omerge_takes u k m)
omerge_takes-kept u k (Item x) = omerge_gets-kept u.mode u (Item x)
omerge_takes-kept u k Mark = omerge_gets-kept u.mode u Mark
omerge_takes-kept u k (Pick w) = omerge_gets-kept u.mode u (Pick w)
omerge_takes-kept u k EosMsg = omerge_ended-kept u.mode u k
omerge_takes-kept u k AbortMsg = omerge_spoiled-kept u.mode u k
