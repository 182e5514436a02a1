-- What a unit does step by step, and what its ports see of it. A unit is any state with a relation of its steps.
use Rattle.std.specs.Prelude.{◌≡◌, ℕ, List, [], ◌∷◌, ◌++◌, map, replicate}
use Rattle.std.specs.List.{AllByRecursion}
use Rattle.ff_rec.specs.Lines.{Rec}
use Rattle.ff_rec.specs.Streams.{IsOpen, added, unaborted, closed, GoesOn}
use Rattle.ff_rec.specs.declared.msg.Msg.{Msg}

-- a message between two units
abbrev pub Message : Type 0
Message = Msg Rec

-- what a unit did at once: it took a message at an in, gave one to an out, was refused memory by a put, did neither, was
-- told to abort, or a reject that it kept was taken out
pub data Act : Type 0 where
  Took : (k : ℕ) (m : Message) → Act
  Gave : (k : ℕ) (m : Message) → Act
  Refused : Act
  Idle : Act
  Told : Act
  Handed : (r : Rec) → Act

-- what was taken at each in, after an act
abbrev pub took : Act → List (List Message) → List (List Message)
took (Took k m) gots = added gots k m
took (Gave k m) gots = gots
took Refused gots = gots
took Idle gots = gots
took Told gots = gots
took (Handed r) gots = gots

-- what was put at each out, after an act
abbrev pub gave : Act → List (List Message) → List (List Message)
gave (Took k m) puts = puts
gave (Gave k m) puts = added puts k m
gave Refused puts = puts
gave Idle puts = puts
gave Told puts = puts
gave (Handed r) puts = puts

-- the same after a list of acts, the newest first
abbrev pub took_on : List (List Message) → List Act → List (List Message)
took_on gots [] = gots
took_on gots (act ∷ acts) = took act (took_on gots acts)

abbrev pub gave_on : List (List Message) → List Act → List (List Message)
gave_on puts [] = puts
gave_on puts (act ∷ acts) = gave act (gave_on puts acts)

-- the rejects that these acts took out, in their order
abbrev pub handed_on : List Act → List Rec
handed_on [] = []
handed_on (Took k m ∷ acts) = handed_on acts
handed_on (Gave k m ∷ acts) = handed_on acts
handed_on (Refused ∷ acts) = handed_on acts
handed_on (Idle ∷ acts) = handed_on acts
handed_on (Told ∷ acts) = handed_on acts
handed_on (Handed r ∷ acts) = handed_on acts ++ r ∷ []

-- these acts, the newest first, lead from `u` to `v`
abbrev pub Leads : {U : Type 0} → (U → Act → U → Type 0) → U → List Act → U → Type 0
Leads Steps u [] v = v ≡ u
Leads {U} Steps u (act ∷ acts) v = (w : U) × Leads Steps u acts w × Steps w act v

-- `v` is reached from `u` by steps of the unit, and these took and put what its ports got and were given in between
pub record IsReached {U : Type 0} (Steps : U → Act → U → Type 0) (u : U) (gots puts : List (List Message)) (v : U) (gots' puts' : List (List Message)) : Type 0 where
  pub acts : List Act
  pub leads : Leads Steps u acts v
  pub takes : gots' ≡ took_on gots acts
  pub gives : puts' ≡ gave_on puts acts

-- the same from ports at which nothing was taken or put
abbrev pub HasRun : {U : Type 0} → (U → Act → U → Type 0) → U → ℕ → ℕ → U → List (List Message) → List (List Message) → Type 0
HasRun Steps start ins outs v gots puts = IsReached Steps start (replicate ins []) (replicate outs []) v gots puts

-- one step: exactly one act, which the ports saw, and an answer that tells it
pub record OneEvent {U A : Type 0} (Steps : U → Act → U → Type 0) (Answers : U → Act → A → Type 0) (u : U) (gots puts : List (List Message)) (answer : A) (v : U) (gots' puts' : List (List Message)) : Type 0 where
  pub act : Act
  pub steps : Steps u act v
  pub takes : gots' ≡ took act gots
  pub gives : puts' ≡ gave act puts
  pub answers : Answers v act answer

-- the lists so far, each without its Aborts, go on to the whole lists of these messages
abbrev pub AllGoOn : List (List Message) → List (List Message) → Type 0
AllGoOn [] [] = Unit {0}
AllGoOn [] (ms ∷ mss) = ⊥
AllGoOn (c ∷ cs) [] = ⊥
AllGoOn (c ∷ cs) (ms ∷ mss) = GoesOn (unaborted c) ms × AllGoOn cs mss

-- some outs that go on from what was put
pub record HasOuts (Fits : List (List Message) → List (List Message) → Type 0) (ins puts : List (List Message)) : Type 0 where
  pub outs : List (List Message)
  pub goes_on : AllGoOn puts outs
  pub fits : Fits ins outs

-- a unit begins to fit: however its ins go on to whole lists, its outs can go on so that it fits them
abbrev pub BeginsToFit : (List (List Message) → List (List Message) → Type 0) → List (List Message) → List (List Message) → Type 0
BeginsToFit Fits gots puts = (ins : List (List Message)) → AllGoOn gots ins → HasOuts Fits ins puts

-- no end stands in any of these lists
abbrev pub AreOpen : List (List Message) → Type 0
AreOpen mss = AllByRecursion IsOpen mss

-- a unit fits what it took and put: each list ends with Eos, and no end stands anywhere else in it
pub record FitsWhole (Fits : List (List Message) → List (List Message) → Type 0) (gots puts : List (List Message)) : Type 0 where
  pub ins : List (List Message)
  pub outs : List (List Message)
  pub ins_open : AreOpen ins
  pub outs_open : AreOpen outs
  pub gots_are : gots ≡ map closed ins
  pub puts_are : puts ≡ map closed outs
  pub fits : Fits ins outs
