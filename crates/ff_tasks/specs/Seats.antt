-- The master's ends of one worker's rings.
use Rattle.std.specs.Prelude.{◌≡◌, Bool, false, List, [], ◌∷◌, ◌++◌, Option, None, Some, map}
use Rattle.std.specs.List.{AllByRecursion, AllZip}
use Rattle.ff_rec.specs.declared.msg.Msg.{Msg}
use Rattle.ff_rec.specs.Streams.{items}
use Rattle.ff_tasks.specs.Jobs.{Begins, Link}

pub record SeatState (T A : Type 0) : Type 0 where
  -- what was put for the worker, and what came from it
  pub put : List (Msg T)
  pub got : List (Msg A)
  -- whether the worker was told the end
  pub told : Bool
  pub link : Link

-- the next message of the worker came, or none has
abbrev pub TakesOne : {T A : Type 0} → SeatState T A → Option (Msg A) → SeatState T A → Type 0
TakesOne s None s' = s' ≡ s
TakesOne s (Some m) s' = s' ≡ record s { got = s.got ++ m ∷ [] }

-- no task was given, and more may have come
pub record Outlives {T A : Type 0} (s s' : SeatState T A) : Type 0 where
  pub put : items s'.put ≡ items s.put
  pub got : Begins s.got s'.got
  pub link : s'.link ≡ s.link

abbrev pub AllOutlive : {T A : Type 0} → List (SeatState T A) → List (SeatState T A) → Type 0
AllOutlive ss ss' = AllZip Outlives ss ss'

-- no worker was told the end
abbrev pub AreOpen : {T A : Type 0} → List (SeatState T A) → Type 0
AreOpen ss = AllByRecursion (λ s. s.told ≡ false) ss

-- the rings of all seats
abbrev pub links : {T A : Type 0} → List (SeatState T A) → List Link
links ss = map (λ s. s.link) ss

-- over the same rings, and no worker was told the end
pub record Stay {T A : Type 0} (ss ss' : List (SeatState T A)) : Type 0 where
  pub links : links ss' ≡ links ss
  pub untold : AreOpen ss → AreOpen ss'
