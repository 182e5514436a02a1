-- What contracts see of the two ends of a ring.
use Rattle.std.specs.Prelude.{◌≡◌, ◌⊎◌, ℕ, ◌+◌, ◌-◌, ◌<◌, ◌≤◌, Bool, IsTrue, List, ◌++◌, length, min}
use Rattle.std.specs.List.{flat_map}
use Rattle.std.proofs.Common.{deque_items, deque_len, deque_capacity}
use Rattle.ff_rec.specs.Streams.{IsOpenMsg}
use Rattle.ff_rec.specs.declared.msg.Msg.{Msg}
use Rattle.rtrb.specs.Ring.{sent, received, known_items}
use Rattle.ff_ring.specs.declared.ring_in.RingIn.{RingIn}
use Rattle.ff_ring.specs.declared.ring_out.RingOut.{RingOut}
use Rattle.ff_ring.specs.Bundles.{ahead_of}
use Rattle.ff_ring.specs.Names.{RingName, name_of}
use Rattle.ff_ring.specs.Outlets.{slots_of, hands_of, IsStarved}
use Rattle.ff_ring.specs.Ringers.{untold_of}
use Rattle.ff_ring.specs.Sizes.{bundle_size, bundle_count}

module _ {T : Type 0} where
  -- the messages that wait at the writer to be handed over
  abbrev pub held_of : RingOut T → List (Msg T)
  held_of out = out.bundle.items

  -- how many these are
  abbrev pub waiting_of : RingOut T → ℕ
  waiting_of out = length (held_of out)

  -- the messages that the writer put: those in the bundles that it handed over, and those that wait
  abbrev pub put_of : RingOut T → List (Msg T)
  put_of out = flat_map deque_items (sent out.outlet.end) ++ held_of out

  -- the messages that an empty bundle takes for sure: one, but in a ring of one slot, where each is handed over at once
  abbrev pub spot_of : RingOut T → ℕ
  spot_of out = min (1 - waiting_of out) (slots_of out.outlet - 1)

  -- how many messages can be put for sure. A bundle may be handed over with one message, so each counts as one
  abbrev pub room_of : RingOut T → ℕ
  room_of out = hands_of out.outlet + spot_of out

  -- how many bundles were handed over that the reader wasn't told of
  abbrev pub untold_out : RingOut T → ℕ
  untold_out out = untold_of out.outlet.reader

  -- whether the writer hands over what waits as soon as the reader is known to have taken all else, and tells of each bundle
  abbrev pub is_eager : RingOut T → Bool
  is_eager out = out.eager

  -- the ring that the writer writes
  abbrev pub written_ring : RingOut T → RingName
  written_ring out = name_of out.outlet.end.end

  -- the messages at the reader: those left in the bundle that it opened, and those in the bundles that it knows of
  abbrev pub there_of : RingIn T → List (Msg T)
  there_of inn = inn.bundle.items ++ flat_map deque_items (known_items inn.inlet.end)

  -- how many these are
  abbrev pub known_of : RingIn T → ℕ
  known_of inn = length (there_of inn)

  -- the messages that the reader took: those of the bundles that reached it, but for what is left in the last
  abbrev pub got_of : RingIn T → List (Msg T)
  got_of inn = ahead_of inn.bundle.items (flat_map deque_items (received inn.inlet.end))

  -- how many blocks came back that the writer wasn't told of
  abbrev pub untold_in : RingIn T → ℕ
  untold_in inn = untold_of inn.inlet.writer

  -- whether the reader tells of each block
  abbrev pub is_eager_in : RingIn T → Bool
  is_eager_in inn = inn.eager

  -- the ring that the reader reads
  abbrev pub read_ring : RingIn T → RingName
  read_ring inn = name_of inn.inlet.end.end

  -- how many bundles can be handed over, so far as is known
  abbrev pub hands_out : RingOut T → ℕ
  hands_out out = hands_of out.outlet

  -- the bundle isn't full, and the ring has two slots or more
  pub record HasFill (out : RingOut T) : Type 0 where
    pub place : deque_len out.bundle < deque_capacity out.bundle
    pub double : 1 < slots_of out.outlet

  -- a put leaves as many, or one fewer where nothing waits behind it
  abbrev pub KeepsHands : RingOut T → RingOut T → Type 0
  KeepsHands out out' = (hands_out out ≤ hands_out out') ⊎ ((hands_out out ≤ hands_out out' + 1) × (waiting_of out' ≡ 0))

  -- there is a place for one message more
  pub record HasPlace (out : RingOut T) : Type 0 where
    pub place : deque_len out.bundle < deque_capacity out.bundle
    pub single : slots_of out.outlet ≡ 1 → 0 < hands_of out.outlet

  -- what was put waits while there is room to hand it over only where the bundle isn't full, the last message ends
  -- nothing, and the writer isn't eager or knows that the reader has others to take; in a ring of one slot nothing
  -- waits
  pub record Gathers (last : Msg T) (out : RingOut T) : Type 0 where
    pub full : deque_len out.bundle ≡ deque_capacity out.bundle → hands_of out.outlet ≡ 0
    pub ended : ¬ IsOpenMsg last → 0 < waiting_of out → hands_of out.outlet ≡ 0
    pub starved : IsTrue (is_eager out) → IsStarved out.outlet → 0 < waiting_of out → hands_of out.outlet ≡ 0
    pub single : slots_of out.outlet ≡ 1 → waiting_of out ≡ 0

  -- the writing end of a fresh ring of this capacity: with room for more messages than the ring holds bundles, where it
  -- has two slots or more, and for one message where it has one
  pub record IsMade (cap : ℕ) (out : RingOut T) : Type 0 where
    pub size : deque_capacity out.bundle ≡ bundle_size cap
    pub count : slots_of out.outlet ≡ bundle_count cap
    pub some : 0 < room_of out
    pub more : 2 ≤ cap → (2 ≤ bundle_count cap) × (bundle_count cap < room_of out)
