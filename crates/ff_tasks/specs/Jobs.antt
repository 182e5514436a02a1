-- A worker's job: what is seen of it, and what it makes of its tasks.
use Rattle.std.specs.Prelude.{◌≡◌, ◌⊎◌, ℕ, Bool, true, false, List, [], ◌∷◌, ◌++◌, length, map}
use Rattle.ff_port.specs.declared.answers.End.{End}
use Rattle.ff_port.specs.declared.answers.End.TheVariants.{Eos as EndEos, Abort as EndAbort, Memory as EndMemory}
use Rattle.ff_rec.specs.declared.msg.Msg.{Msg}
use Rattle.ff_rec.specs.declared.msg.Msg.TheVariants.{Abort}
use Rattle.ff_rec.specs.Counts.{counted}
use Rattle.ff_rec.specs.Streams.{IsOpen, items, closed}
use Rattle.ff_ring.specs.Names.{RingName}

-- these are the first of those
pub record Begins {A : Type 0} (xs ys : List A) : Type 0 where
  pub more : List A
  pub is : ys ≡ xs ++ more

-- the rings between the master and one worker: that of the tasks, and that of the answers
pub record Link : Type 0 where
  pub tasks : RingName
  pub answers : RingName

pub record JobState (T A H : Type 0) : Type 0 where
  pub handler : H
  -- what it took and what it put
  pub got : List (Msg T)
  pub put : List (Msg A)
  pub link : Link
  -- whether it has put its last message
  pub ended : Bool

-- every task that it took is answered, and it goes on
pub record HasKept {T A : Type 0} (f : T → A) (got : List (Msg T)) (put : List (Msg A)) : Type 0 where
  pub inner : IsOpen put
  pub all : items put ≡ map f (items got)

-- how many answers it put, as far as a count of 64 bits tells
abbrev pub handled : {T A H : Type 0} → JobState T A H → ℕ
handled job = counted (length (items job.put))

-- it stopped at Eos with every task answered, or at Abort or for want of memory with the first of them answered
abbrev pub HasStopped : {T A : Type 0} → (T → A) → End → List (Msg T) → List (Msg A) → Type 0
HasStopped {T} f EndEos got put = ((before : List (Msg T)) × (got ≡ closed before)) × (items put ≡ map f (items got))
HasStopped f EndAbort got put = Begins (items put) (map f (items got))
HasStopped f EndMemory got put = Begins (items put) (map f (items got))

-- Eos was taken last, every task is answered, and Eos was put behind the answers
pub record HasClosed {T A : Type 0} (f : T → A) (got : List (Msg T)) (put : List (Msg A)) : Type 0 where
  pub before : List (Msg T)
  pub taken : got ≡ closed before
  pub said : List (Msg A)
  pub told : put ≡ closed said
  pub all : items put ≡ map f (items got)

-- the first tasks are answered, and Abort was put behind the answers
pub record HasCutOff {T A : Type 0} (f : T → A) (got : List (Msg T)) (put : List (Msg A)) : Type 0 where
  pub said : List (Msg A)
  pub told : put ≡ said ++ Abort ∷ []
  pub first : Begins (items put) (map f (items got))

-- the one or the other
abbrev pub HasEnded : {T A : Type 0} → (T → A) → List (Msg T) → List (Msg A) → Type 0
HasEnded f got put = HasClosed f got put ⊎ HasCutOff f got put

-- it ran over the same rings, and its handler answers the same; where it hadn't ended, it has now, and else nothing changed
pub record HasAnswered {T A H : Type 0} (answers : H → T → A) (before after : JobState T A H) : Type 0 where
  pub same : answers after.handler ≡ answers before.handler
  pub link : after.link ≡ before.link
  pub ends : before.ended ≡ false → HasEnded (answers before.handler) after.got after.put
  pub rests : before.ended ≡ true → after ≡ before
