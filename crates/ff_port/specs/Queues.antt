-- A queue of one thread: its two ends in one value.
use Rattle.std.specs.Prelude.{◌≡◌, ℕ, ◌-◌, ◌<◌, List, [], ◌∷◌, ◌++◌, length, Option, None, Some}
use Rattle.ff_rec.specs.Streams.{IsOpenMsg}
use Rattle.ff_rec.specs.declared.msg.Msg.{Msg}
use Rattle.ff_port.specs.declared.answers.Put.{Put as PutAnswer}
use Rattle.ff_port.specs.declared.answers.Put.TheVariants.{Done, Full, NoMemory}

-- the messages that the reader got, those inside, and how many fit inside
pub record Queue (T : Type 0) : Type 0 where
  pub got : List (Msg T)
  pub inside : List (Msg T)
  pub cap : ℕ

-- the messages that the writer put
abbrev pub put_of : {T : Type 0} → Queue T → List (Msg T)
put_of q = q.got ++ q.inside

-- the room that is left
abbrev pub room_of : {T : Type 0} → Queue T → ℕ
room_of q = q.cap - length q.inside

-- nothing waits on the writer's side: a message is handed over as it is put
abbrev pub waiting_of : {T : Type 0} → Queue T → ℕ
waiting_of q = 0

-- nothing was put
abbrev pub empty_queue : {T : Type 0} → ℕ → Queue T
empty_queue cap = record { got = []; inside = []; cap = cap }

-- a take gives the first message inside, and nothing exactly where none is inside
abbrev pub QueueTakes : {T : Type 0} → Queue T → Option (Msg T) → Queue T → Type 0
QueueTakes q None q' = (q.inside ≡ []) × (q' ≡ q)
QueueTakes q (Some m) q' = (q.inside ≡ m ∷ q'.inside) × (q'.got ≡ q.got ++ m ∷ []) × (q'.cap ≡ q.cap)

-- a put is handed back as full exactly where the queue is, and for want of memory leaves the queue as it was
abbrev pub QueuePuts : {T : Type 0} → Queue T → Msg T → PutAnswer T → Queue T → Type 0
QueuePuts q m Done q' = (length q.inside < q.cap) × (q' ≡ record q { inside = q.inside ++ m ∷ [] })
QueuePuts q m (Full back) q' = (length q.inside ≡ q.cap) × (back ≡ m) × (q' ≡ q)
QueuePuts q m (NoMemory back) q' = (length q.inside < q.cap) × (back ≡ m) × IsOpenMsg m × (q' ≡ q)
