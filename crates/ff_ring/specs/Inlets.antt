-- Where bundles reach the reader.
use Rattle.std.specs.Prelude.{◌≡◌, ◌⊎◌, ◌<◌, [], ◌∷◌, ◌++◌, length}
use Rattle.std.proofs.Common.{deque_capacity}
use Rattle.std.specs.declared.collections.VecDeque.{VecDeque}
use Rattle.std.specs.declared.alloc.Global.{Global}
use Rattle.ff_rec.specs.declared.msg.Msg.{Msg}
use Rattle.rtrb.specs.declared.producer.Producer.{Producer}
use Rattle.rtrb.specs.Ring.{sent, known_free, received, known_items, SameConsumer}
use Rattle.ff_ring.specs.declared.bundle.Emptied.{Emptied}
use Rattle.ff_ring.specs.declared.inlet.Inlet.{Inlet}

module _ {T : Type 0} where
  -- a block went back over this end, unless no place is left
  abbrev pub GoesBack : Producer (VecDeque (Msg T) Global) Global Emptied → VecDeque (Msg T) Global
      → Producer (VecDeque (Msg T) Global) Global Emptied → Type 0
  GoesBack spares b spares' = (sent spares' ≡ sent spares ++ b ∷ []) ⊎ (known_free spares' ≡ 0)

  -- the next bundle was taken, which isn't empty, and the block that stood in its place went back
  pub record TakesOver (i : Inlet T) (b : VecDeque (Msg T) Global)
      (i' : Inlet T) (b' : VecDeque (Msg T) Global) : Type 0 where
    pub ring : SameConsumer i.end i'.end
    pub taken : received i'.end ≡ received i.end ++ b' ∷ []
    pub known : known_items i.end ≡ b' ∷ known_items i'.end
    pub filled : 0 < length b'.items
    pub roomy : 0 < deque_capacity b'
    pub back : GoesBack i.spares b i'.spares
