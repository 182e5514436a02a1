-- What a unit is: what is seen of its state, how it steps between its ports, and what holds of all that it does.
use Rattle.std.specs.Prelude.{◌≡◌, ◌⊎◌, ℕ, zero, suc, Bool, true, false, if◌then◌else◌, List, [], ◌∷◌, ◌++◌, length, Option, None, Some, IsSome}
use Rattle.ff_rec.specs.Lines.{Rec}
use Rattle.ff_rec.specs.declared.msg.Msg.TheVariants.{Item, Mark, Pick, Eos as EosMsg, Abort as AbortMsg}
use Rattle.ff_node.specs.Runs.{Message, Act, Took, Gave, Refused, Idle, Told, Handed, Leads, HasRun, OneEvent, FitsWhole}
use Rattle.ff_node.specs.Sends.{counted}
use Rattle.ff_port.specs.declared.answers.End.{End}
use Rattle.ff_port.specs.declared.answers.End.TheVariants.{Eos, Abort, Memory}
use Rattle.ff_port.specs.declared.answers.Step.{Step}
use Rattle.ff_port.specs.declared.answers.Step.TheVariants.{Moved, Waits, Ended}
use Rattle.ff_port.specs.declared.ports.Ports.{Ghosts}

-- what a unit knows of its ports: how many messages are there at each in, how much room at each out, and how many messages
-- wait to be handed over
pub record Known : Type 0 where
  pub knowns : List ℕ
  pub rooms : List ℕ
  pub waiting : ℕ

abbrev pub known : List ℕ → List ℕ → ℕ → Known
known knowns rooms waiting = record { knowns = knowns; rooms = rooms; waiting = waiting }

-- what a unit does; `U` is what is seen of it
pub record Doing (U : Type 0) : Type 1 where
  -- what its constructor makes sure of
  pub Made : U → Type 0
  -- the unit as it was before its first step
  pub opening : U → U
  -- how many ins and outs it has
  pub ins : U → ℕ
  pub outs : U → ℕ
  -- it holds nothing to be put
  pub Rests : U → Type 0
  -- how it will end, once that is decided, and whether it has ended
  pub fin : U → Option End
  pub done : U → Bool
  -- whether it was told to abort, and what this makes of a unit before its first step
  pub told : U → Bool
  pub aborted : U → U
  -- whether a call of it was refused memory, so that it will end by Memory; and whether it makes calls that may be, other than
  -- puts: those of its node or of its scheduler
  pub short : U → Bool
  pub asks : U → Bool
  -- how many records it rejected, whether these are kept, those kept of them, and those kept and taken out
  pub rejects : U → ℕ
  pub keeps : U → Bool
  pub kept : U → List Rec
  pub taken : U → List Rec
  -- one act
  pub Steps : U → Act → U → Type 0
  -- what its code asks of its ports, which every run keeps
  pub Ready : U → List (List Message) → List (List Message) → Type 0
  -- the port that was due gave nothing, by the ports before and after
  pub Stalls : U → Known → Known → Type 0
  -- the whole lists that it fits
  pub Fits : U → List (List Message) → List (List Message) → Type 0
  -- what it took and put at any moment, whatever it ended by
  pub Begins : U → List (List Message) → List (List Message) → Type 0
  -- what it rejects for whole ins
  pub rejected : U → List (List Message) → List Rec

-- a run of a unit that was `o` before its first step
abbrev pub RanFrom : {U : Type 0} → Doing U → U → U → List (List Message) → List (List Message) → Type 0
RanFrom d o u gots puts = d.Made o × HasRun d.Steps o (d.ins o) (d.outs o) u gots puts

-- a unit is reached by its own acts, which its ports saw
abbrev pub Ran : {U : Type 0} → Doing U → U → List (List Message) → List (List Message) → Type 0
Ran d u gots puts = RanFrom d (d.opening u) u gots puts

-- the answer of a unit that neither took nor gave
abbrev pub idle_answer : Bool → Option End → Step
idle_answer true (Some fin) = Ended fin
idle_answer true None = Waits
idle_answer false fin = Waits

-- what a step answers; no step tells a unit to abort or takes a reject out
abbrev pub Answers : {U : Type 0} → Doing U → U → Act → Step → Type 0
Answers d v (Took k m) answer = answer ≡ Moved
Answers d v (Gave k m) answer = answer ≡ Moved
Answers d v Refused answer = answer ≡ Moved
Answers d v Idle answer = answer ≡ idle_answer (d.done v) (d.fin v)
Answers d v Told answer = ⊥
Answers d v (Handed x) answer = ⊥

-- one step is exactly one act
abbrev pub One : {U : Type 0} → Doing U → U → List (List Message) → List (List Message) → Step → U → List (List Message) → List (List Message) → Type 0
One d u gots puts answer v gots' puts' = OneEvent d.Steps (Answers d) u gots puts answer v gots' puts'

-- the same over channels that grow, or that don't: a put is refused memory where they grow alone
abbrev pub AnswersOver : {U : Type 0} → Doing U → Bool → U → Act → Step → Type 0
AnswersOver d grows v (Took k m) answer = answer ≡ Moved
AnswersOver d grows v (Gave k m) answer = answer ≡ Moved
AnswersOver d grows v Refused answer = (answer ≡ Moved) × (grows ≡ true)
AnswersOver d grows v Idle answer = answer ≡ idle_answer (d.done v) (d.fin v)
AnswersOver d grows v Told answer = ⊥
AnswersOver d grows v (Handed x) answer = ⊥

abbrev pub OneOver : {U : Type 0} → Doing U → Bool → U → List (List Message) → List (List Message) → Step → U → List (List Message) → List (List Message) → Type 0
OneOver d grows u gots puts answer v gots' puts' = OneEvent d.Steps (AnswersOver d grows) u gots puts answer v gots' puts'

-- where a unit waits, its due port was tried and gave nothing
abbrev pub WaitsOnly : {U : Type 0} → Doing U → U → Step → Known → Known → Type 0
WaitsOnly d u Moved before after = Unit {0}
WaitsOnly d u Waits before after = d.Stalls u before after
WaitsOnly d u (Ended fin) before after = Unit {0}

-- a unit has ended, as it was decided, with nothing held; in the step in which it ended nothing waited to be handed over
abbrev pub EndedOnly : {U : Type 0} → Doing U → U → Step → U → ℕ → Type 0
EndedOnly d u Moved v waiting = Unit {0}
EndedOnly d u Waits v waiting = Unit {0}
EndedOnly d u (Ended fin) v waiting =
    (d.done v ≡ true) × (d.fin v ≡ Some fin) × d.Rests v × ((d.done u ≡ true → ⊥) → waiting ≡ 0)

-- a unit that is short of memory was so before, or its channels grow, or it makes calls of its own that may be refused memory
abbrev pub ShortOnly : {U : Type 0} → Doing U → Bool → U → U → Type 0
ShortOnly d grows u v = d.short v ≡ true → (d.short u ≡ true) ⊎ (grows ≡ true) ⊎ (d.asks u ≡ true)

-- one step of a unit is exactly one act; where it waits its due port was tried, where it ends it ends as was decided; and what its
-- ports are paired with stays; a put is refused memory on channels that grow alone. `ports` is what is seen of them, at `before` and at `after`
pub record StepsOnce {U S : Type 0} (d : Doing U) (ports : Ghosts S Rec) (u : U) (before : S) (answer : Step) (v : U) (after : S) : Type 0 where
  pub one : OneOver d ports.grows u (ports.gots before) (ports.puts before) answer v (ports.gots after) (ports.puts after)
  pub waits : WaitsOnly d u answer (known (ports.knowns before) (ports.rooms before) (ports.waiting before))
      (known (ports.knowns after) (ports.rooms after) (ports.waiting after))
  pub ended : EndedOnly d u answer v (ports.waiting after)
  pub linked : ports.link after ≡ ports.link before

-- two steps in a row that both move
pub record MovesTwice {U S : Type 0} (d : Doing U) (ports : Ghosts S Rec) (u : U) (before : S) (answer : Step) (v : U) (after : S) : Type 0 where
  pub between : U
  pub gots_between : List (List Message)
  pub puts_between : List (List Message)
  pub first : OneOver d ports.grows u (ports.gots before) (ports.puts before) Moved between gots_between puts_between
  pub second : OneOver d ports.grows between gots_between puts_between Moved v (ports.gots after) (ports.puts after)
  pub answers : answer ≡ Moved
  pub linked : ports.link after ≡ ports.link before

-- one step, or two that both move
abbrev pub StepsThrough : {U S : Type 0} → Doing U → Ghosts S Rec → U → S → Step → U → S → Type 0
StepsThrough d ports u before answer v after = StepsOnce d ports u before answer v after ⊎ MovesTwice d ports u before answer v after

-- a unit that has ended does nothing more
pub record StaysAt {U S : Type 0} (ports : Ghosts S Rec) (u : U) (before : S) (v : U) (after : S) : Type 0 where
  pub unit : v ≡ u
  pub gots_same : ports.gots after ≡ ports.gots before
  pub puts_same : ports.puts after ≡ ports.puts before

-- a unit has ended as the answer tells, with nothing held, where it tells an end
abbrev pub EndsAs : {U : Type 0} → Doing U → Step → U → Type 0
EndsAs d Moved v = Unit {0}
EndsAs d Waits v = Unit {0}
EndsAs d (Ended fin) v = (d.done v ≡ true) × (d.fin v ≡ Some fin) × d.Rests v

-- so many steps in a row, of which each moved
abbrev pub Moves : {U : Type 0} → Doing U → ℕ → U → List (List Message) → List (List Message) → U → List (List Message) → List (List Message) → Type 0
Moves d zero u gots puts v gots' puts' = (v ≡ u) × (gots' ≡ gots) × (puts' ≡ puts)
Moves {U} d (suc n) u gots puts v gots' puts' =
    (w : U) × (gs : List (List Message)) × (ps : List (List Message)) × Moves d n u gots puts w gs ps × One d w gs ps Moved v gots' puts'

-- what many steps answer, by their number but the last and by the answer of that one: a unit that moved and then waits has moved
abbrev pub answer_behind : ℕ → Step → Step
answer_behind zero answer = answer
answer_behind (suc n) Moved = Moved
answer_behind (suc n) Waits = Moved
answer_behind (suc n) (Ended fin) = Ended fin

-- a unit steps on: while it moves, and then once more; `waiting` is how many messages wait then to be handed over
pub record StepsOn {U : Type 0} (d : Doing U) (u : U) (gots puts : List (List Message)) (answer : Step) (v : U) (gots' puts' : List (List Message)) (waiting : ℕ) : Type 0 where
  pub moves : ℕ
  pub before_last : U
  pub gots_before : List (List Message)
  pub puts_before : List (List Message)
  pub moved : Moves d moves u gots puts before_last gots_before puts_before
  pub last_answer : Step
  pub last : One d before_last gots_before puts_before last_answer v gots' puts'
  pub ended : EndedOnly d before_last last_answer v waiting
  pub answers : answer ≡ answer_behind moves last_answer

-- how a unit ended, once it has
abbrev pub end_of : {U : Type 0} → Doing U → U → Option End
end_of d u = if d.done u then d.fin u else None

-- a kept reject is taken out, or none is held
abbrev pub HandsReject : {U : Type 0} → Doing U → U → Option Rec → U → Type 0
HandsReject d u None v = (d.kept u ≡ []) × (v ≡ u)
HandsReject d u (Some x) v = d.Steps u (Handed x) v × (d.kept u ≡ x ∷ d.kept v)

-- the rejects of a unit, by what it took: their number, and those taken out with those held, where they are kept
pub record HasRejects {U : Type 0} (d : Doing U) (u : U) (gots : List (List Message)) : Type 0 where
  pub number_is : d.rejects u ≡ counted (length (d.rejected u gots))
  pub kept_are : d.keeps u ≡ true → d.taken u ++ d.kept u ≡ d.rejected u gots
  pub none : d.keeps u ≡ false → d.kept u ≡ []

-- an Abort stands among these messages
abbrev pub HasAbort : List Message → Type 0
HasAbort [] = ⊥
HasAbort (Item x ∷ ms) = HasAbort ms
HasAbort (Mark ∷ ms) = HasAbort ms
HasAbort (Pick w ∷ ms) = HasAbort ms
HasAbort (EosMsg ∷ ms) = HasAbort ms
HasAbort (AbortMsg ∷ ms) = Unit {0}

-- an Abort was taken at some in
abbrev pub TookAbort : List (List Message) → Type 0
TookAbort [] = ⊥
TookAbort (ms ∷ mss) = HasAbort ms ⊎ TookAbort mss

-- those taken out, and whether it was told to abort, after an act
abbrev pub taken_by : Act → List Rec → List Rec
taken_by (Took k m) taken = taken
taken_by (Gave k m) taken = taken
taken_by Refused taken = taken
taken_by Idle taken = taken
taken_by Told taken = taken
taken_by (Handed x) taken = taken ++ x ∷ []

abbrev pub told_by : Act → Bool → Bool
told_by (Took k m) told = told
told_by (Gave k m) told = told
told_by Refused told = told
told_by Idle told = told
told_by Told told = true
told_by (Handed x) told = told

-- what may make a unit short of memory: a put, or a call of its own behind what it took or put
abbrev pub LacksBy : Bool → Act → Type 0
LacksBy asks (Took k m) = asks ≡ true
LacksBy asks (Gave k m) = asks ≡ true
LacksBy asks Refused = Unit {0}
LacksBy asks Idle = ⊥
LacksBy asks Told = ⊥
LacksBy asks (Handed x) = ⊥

-- an Abort was put on each of the first `n` outs, the last of them first
abbrev pub aborts : ℕ → List Act
aborts zero = []
aborts (suc n) = Gave n AbortMsg ∷ aborts n

-- what a unit told to abort before its first step did, the newest act first
abbrev pub told_acts : ℕ → List Act
told_acts n = Idle ∷ aborts n ++ Told ∷ []

-- the laws of a unit
pub record IsUnit {U : Type 0} (d : Doing U) : Type 0 where
  -- no act changes what it was before its first step
  pub opening_kept : (u : U) (act : Act) (v : U) → d.Steps u act v → d.opening v ≡ d.opening u
  -- what was taken out grows by what is taken out alone, and only being told tells it
  pub taken_kept : (u : U) (act : Act) (v : U) → d.Steps u act v → d.taken v ≡ taken_by act (d.taken u)
  pub told_kept : (u : U) (act : Act) (v : U) → d.Steps u act v → d.told v ≡ told_by act (d.told u)
  -- what is seen of one that made no step
  pub opened : (u : U) → (d.done (d.opening u) ≡ false) × (d.told (d.opening u) ≡ false) × (d.taken (d.opening u) ≡ [])
  -- its ports are as its code asks
  pub ready : (u : U) (gots puts : List (List Message)) → Ran d u gots puts → d.Ready u gots puts
  -- one that has ended has decided how
  pub ends : (u : U) (gots puts : List (List Message)) → Ran d u gots puts → d.done u ≡ true → IsSome (d.fin u)
  -- its ports saw what they may at any moment, and where it ended by Eos, whole lists that it fits
  pub begins : (u : U) (gots puts : List (List Message)) → Ran d u gots puts → d.Begins u gots puts
  pub whole : (u : U) (gots puts : List (List Message)) → Ran d u gots puts → d.done u ≡ true → d.fin u ≡ Some Eos
      → FitsWhole (d.Fits u) gots puts
  -- then its rejects are all that it rejects for what it took
  pub rejects_are : (u : U) (gots puts : List (List Message)) → Ran d u gots puts → d.done u ≡ true → d.fin u ≡ Some Eos
      → HasRejects d u gots
  -- it ends by Abort only where it took one or was told to
  pub causes : (u : U) (gots puts : List (List Message)) → Ran d u gots puts → d.fin u ≡ Some Abort
      → (d.told u ≡ true) ⊎ TookAbort gots
  -- it is short of memory neither before its first step nor where it was told to abort, and it ends by Memory only where it is
  pub not_short : (u : U) → (d.short (d.opening u) ≡ false) × (d.short (d.aborted u) ≡ false)
  pub short_ends : (u : U) → d.fin u ≡ Some Memory → d.short u ≡ true
  -- it comes to that by a refused put or by a call of its own alone, and one that makes no such calls any more makes none later
  pub short_by : (u : U) (act : Act) (v : U) → d.Steps u act v → d.short v ≡ true → (d.short u ≡ true) ⊎ LacksBy (d.asks u) act
  pub asks_kept : (u : U) (act : Act) (v : U) → d.Steps u act v → d.asks v ≡ true → d.asks u ≡ true
  -- one that is told to abort before its first step puts Abort on each out and ends
  pub aborts_by : (u : U) → u ≡ d.opening u → Leads d.Steps u (told_acts (d.outs u)) (d.aborted u)
