-- What the parts of a deal do, each for itself.
use Rattle.std.specs.Prelude.{◌≡◌, ◌<◌, ℕ, Bool, true, List, [], ◌∷◌, Option, None, Some, slice_index}
use Rattle.ff_rec.specs.Lines.{Rec}
use Rattle.ff_rec.specs.Streams.{added}
use Rattle.ff_rec.specs.declared.msg.Msg.TheVariants.{Item, Eos as EosMsg, Abort as AbortMsg}
use Rattle.ff_node.specs.Runs.{Message}
use Rattle.ff_unit.specs.Deals.{MayBeRefused}
use Rattle.ff_unit.specs.declared.deal.held.HeldPut.{HeldPut}
use Rattle.ff_unit.specs.declared.deal.held.HeldPut.TheVariants.{Nothing, Done, Full, NoMemory}
use Rattle.ff_unit.specs.declared.deal.behind.Last.{Last}
use Rattle.ff_unit.specs.declared.deal.behind.Last.TheVariants.{Eos as LastEos, Abort as LastAbort}
use Rattle.ff_unit.specs.declared.deal.offer.Offer.{Offer}
use Rattle.ff_unit.specs.declared.deal.offer.Offer.TheVariants.{Done as Offered, Full as NotOffered, NoMemory as OfferRefused}

-- the last message of a stream
abbrev pub last_msg : Last → Message
last_msg LastEos = EosMsg
last_msg LastAbort = AbortMsg

-- the first held message is taken out, or none is held
abbrev pub TakesPair : List (ℕ × Message) → Option (ℕ × Message) → List (ℕ × Message) → Type 0
TakesPair held None held' = (held ≡ []) × (held' ≡ [])
TakesPair held (Some pair) held' = held ≡ pair ∷ held'

-- the out of the first held message has no room, before and after
abbrev pub IsFullFirst : List (ℕ × Message) → List ℕ → List ℕ → Type 0
IsFullFirst [] rooms rooms' = ⊥
IsFullFirst (pair ∷ held) rooms rooms' = (slice_index rooms pair.0 ≡ 0) × (slice_index rooms' pair.0 ≡ 0)

-- the first held message is put at its out, or the out is full, or the put is refused memory, on channels that grow
abbrev pub PutsHeld : Bool → List (ℕ × Message) → List (List Message) → List ℕ → HeldPut → List (ℕ × Message) → List (List Message) → List ℕ → Type 0
PutsHeld grows held puts rooms Nothing held' puts' rooms' = (held ≡ []) × (held' ≡ [])
PutsHeld grows held puts rooms Done held' puts' rooms' = (pair : ℕ × Message) × (held ≡ pair ∷ held') × (puts' ≡ added puts pair.0 pair.1)
PutsHeld grows held puts rooms Full held' puts' rooms' = (held' ≡ held) × (puts' ≡ puts) × IsFullFirst held rooms rooms'
PutsHeld grows held puts rooms NoMemory held' puts' rooms' = (puts' ≡ puts) × MayBeRefused None held × (grows ≡ true)

-- a record is put at one of the first `n` outs, or none of them has room, or a put is refused memory, on channels that grow
abbrev pub Offers : Bool → ℕ → Rec → List (List Message) → List ℕ → Offer → List (List Message) → List ℕ → Type 0
Offers grows n x puts rooms (Offered w) puts' rooms' = (w < n) × (puts' ≡ added puts w (Item x))
Offers grows n x puts rooms (NotOffered m) puts' rooms' = (m ≡ Item x) × (puts' ≡ puts) × ((w : ℕ) → w < n → (slice_index rooms w ≡ 0) × (slice_index rooms' w ≡ 0))
Offers grows n x puts rooms OfferRefused puts' rooms' = (puts' ≡ puts) × (grows ≡ true)
