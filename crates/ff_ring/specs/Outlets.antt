-- Where bundles leave the writer.
use Rattle.std.specs.Prelude.{◌≡◌, ◌⊎◌, ℕ, ◌+◌, ◌≤◌, Bool, true, false, IsTrue, [], ◌∷◌, ◌++◌, length, min}
use Rattle.std.specs.declared.collections.VecDeque.{VecDeque}
use Rattle.std.specs.declared.alloc.Global.{Global}
use Rattle.ff_rec.specs.declared.msg.Msg.{Msg}
use Rattle.rtrb.specs.Ring.{sent, known_free, known_items, producer_capacity, SameProducer}
use Rattle.ff_ring.specs.declared.outlet.Outlet.{Outlet}

module _ {T : Type 0} where
  -- how many slots the ring has, for a bundle each
  abbrev pub slots_of : Outlet T → ℕ
  slots_of o = producer_capacity o.end

  -- how many bundles can be handed over, so far as is known: each wants a free slot, and an empty block in its place
  abbrev pub hands_of : Outlet T → ℕ
  hands_of o = min (known_free o.end) (length (known_items o.spares))

  -- the reader is known to have taken all that was handed over
  abbrev pub IsStarved : Outlet T → Type 0
  IsStarved o = known_free o.end ≡ slots_of o

  -- a bundle is to be handed over before it is full
  abbrev pub IsDue : Bool → Outlet T → Type 0
  IsDue eager o = (slots_of o ≡ 1) ⊎ (IsTrue eager × IsStarved o)

  -- nothing was handed over, and no room is lost
  abbrev pub Looks : Outlet T → Outlet T → Type 0
  Looks o o' = SameProducer o.end o'.end × (sent o'.end ≡ sent o.end) × (hands_of o ≤ hands_of o')

  -- a bundle was handed over and an empty block stands in its place, or there was no room
  abbrev pub HandsOver : Outlet T → VecDeque (Msg T) Global → Bool → Outlet T → VecDeque (Msg T) Global → Type 0
  HandsOver o b true o' b' =
      SameProducer o.end o'.end × (sent o'.end ≡ sent o.end ++ b ∷ []) × (b'.items ≡ [])
      × (hands_of o ≤ hands_of o' + 1)
  HandsOver o b false o' b' = Looks o o' × (b' ≡ b) × (hands_of o' ≡ 0)
