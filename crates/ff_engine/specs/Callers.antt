-- The calling thread's ends of a line of rings, and how it goes on.
use Rattle.std.specs.Prelude.{◌≡◌, ℕ, Bool, true, List, [], ◌∷◌, ◌++◌, ◌⊎◌, Option, None, Some, Result, OnOk, OnErr, IfErr}
use Rattle.std.specs.Io.KnownBytes.{Appends}
use Rattle.ff_rec.specs.Lines.{text}
use Rattle.ff_rec.specs.Streams.{items}
use Rattle.ff_rec.specs.declared.msg.Msg.TheVariants.{Eos, Abort}
use Rattle.ff_node.specs.Runs.{Message}
use Rattle.ff_port.specs.declared.answers.End.{End}
use Rattle.ff_ring.specs.Bundles.{EndsWith}
use Rattle.ff_ring.specs.Names.{RingName}
use Rattle.ff_stream.specs.Works.{halt_count}
use Rattle.ff_stream.specs.declared.fault.Halt.{Halt}
use Rattle.ff_stream.specs.declared.fault.Halt.TheVariants.{NoMemory}

pub record CallerState : Type 0 where
  -- what it put on the first ring, and what it took from the last one
  pub put : List Message
  pub got : List Message
  -- the text that is held to be written
  pub text : List ℕ
  -- whether all of it is held until the units have ended
  pub holds : Bool
  -- how the stream ended, once its end came
  pub end : Option End
  -- the ring that it writes, and the one that it reads
  pub writes : RingName
  pub reads : RingName

-- these messages end with Eos
abbrev pub EndsWithEos : List Message → Type 0
EndsWithEos ms = EndsWith (Eos ∷ []) ms

-- these bytes were written, and the rest of the text of what came is held
abbrev pub Shows : List ℕ → CallerState → Type 0
Shows front c = text (items c.got) ≡ front ++ c.text

-- the rings stay, and whether all text is held
pub record SameRings (c c' : CallerState) : Type 0 where
  pub writes : c'.writes ≡ c.writes
  pub reads : c'.reads ≡ c.reads
  pub holds : c'.holds ≡ c.holds

-- where all text is held, nothing was written
abbrev pub Waits : CallerState → List ℕ → Type 0
Waits c written = c.holds ≡ true → written ≡ []

-- records came, and bytes were written
pub record Moves (c c' : CallerState) (before now : Option (List ℕ)) : Type 0 where
  pub written : List ℕ
  pub taken : Appends before now written
  pub shows : (front : List ℕ) → Shows front c → Shows (front ++ written) c'
  pub waits : Waits c written

-- records came, and the writing of their text broke off
pub record Breaks (c c' : CallerState) (before now : Option (List ℕ)) : Type 0 where
  pub written : List ℕ
  pub taken : Appends before now written
  pub shows : (front : List ℕ) → Shows front c → (back : List ℕ) × (text (items c'.got) ≡ (front ++ written) ++ back)
  pub waits : Waits c written

-- What came was shown, or the writing of it broke off, and the sink counts its fault. Where all text is held, it breaks off for want of
-- memory alone.
pub record GoesOn {A : Type 0} (c : CallerState) (answer : Result A Halt) (c' : CallerState) (before now : Option (List ℕ)) (faults faults' : ℕ) : Type 0 where
  pub moves : OnOk answer (Moves c c' before now)
  pub breaks : OnErr answer (Breaks c c' before now)
  pub rings : SameRings c c'
  pub counts : faults' ≡ halt_count faults answer
  pub starves : IfErr answer (λ halt. c.holds ≡ true → halt ≡ NoMemory)

-- more was taken
pub record TakesMore (c c' : CallerState) : Type 0 where
  pub more : List Message
  pub is : c'.got ≡ c.got ++ more

-- a message was taken, or nothing happened
abbrev pub Receives : CallerState → Option Message → CallerState → Type 0
Receives c None c' = c' ≡ c
Receives c (Some m) c' = (c'.got ≡ c.got ++ m ∷ []) × (c'.put ≡ c.put) × (c'.text ≡ c.text) × SameRings c c'

-- Eos or Abort was put behind these messages
abbrev pub EndsOnce : List Message → List Message → Type 0
EndsOnce before now = (now ≡ before ++ Eos ∷ []) ⊎ (now ≡ before ++ Abort ∷ [])

-- a message was put on the first ring, or comes back for want of room
abbrev pub Feeds : CallerState → Message → Option Message → CallerState → Type 0
Feeds c m None c' = c' ≡ record c { put = c.put ++ m ∷ [] }
Feeds c m (Some back) c' = (back ≡ m) × (c' ≡ c)
