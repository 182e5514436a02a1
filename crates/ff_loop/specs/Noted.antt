-- What pasts tell: they have the newest last.
use Rattle.std.specs.Prelude.{List, [], ◌∷◌, ◌++◌}
use Rattle.ff_loop.specs.declared.events.Happened.{Happened}
use Rattle.ff_loop.specs.declared.events.Happened.TheVariants.{WasOffered, WasGiven, CameBack}
use Rattle.ff_loop.specs.declared.log.Moved.{Moved}
use Rattle.ff_loop.specs.declared.log.Moved.TheVariants.{WasFed, WasGiven as WasGivenTo, WasGot}
use Rattle.ff_loop.specs.Events.{SchedEvent, Offered, Given, Back}
use Rattle.ff_loop.specs.Moves.{Move, Fed, Gave, Got}

-- what `f` makes of each element, the last one first
abbrev pub backward : {A B : Type 0} → (A → B) → List A → List B
backward f [] = []
backward f (x ∷ xs) = backward f xs ++ f x ∷ []

-- an event of a scheduler
abbrev pub event_of : {T A : Type 0} → Happened T A → SchedEvent T A
event_of (WasOffered t) = Offered t.value
event_of (WasGiven id t) = Given id t.value
event_of (CameBack id a) = Back id a.value

-- a move of a master
abbrev pub move_of : {T A : Type 0} → Moved T A → Move T A
move_of (WasFed t) = Fed t.value
move_of (WasGivenTo w id t) = Gave w id t.value
move_of (WasGot w id a) = Got w id a.value
