-- What a step of a party does to it and to its edges.
use Rattle.std.specs.Prelude.{◌≡◌, ◌⊎◌, ℕ, Bool, true, false, List, [], ◌∷◌, drop, slice_index_or, slice_set}
use Rattle.ff_rec.specs.Lines.{Rec}
use Rattle.ff_rec.specs.declared.msg.Msg.TheVariants.{Item, Eos, Abort}
use Rattle.ff_node.specs.Runs.{Message, Act, Took, Gave, Refused, Idle, Told, Handed, took, gave}
use Rattle.ff_port.specs.Queues.{Queue, put_of, room_of}
use Rattle.ff_port.specs.declared.answers.Step.{Step}
use Rattle.ff_unit.specs.Units.{Doing, Answers, WaitsOnly}
use Rattle.ff_steps.specs.Links.{gots_at, puts_at, known_over, rest_of}
use Rattle.ff_steps.specs.Wiring.{Row}
use Rattle.ff_steps.specs.Parties.{Feeder, Drainer, FeederStep, DrainerStep}
use Rattle.ff_steps.specs.declared.feeder.Feeder.{Feeder as Feeding}
use Rattle.ff_steps.specs.declared.drainer.Drainer.{Drainer as Draining}

-- a feeder and a drainer as the definitions see them
abbrev pub feeder_of : Feeding → Feeder
feeder_of f = record { left = drop f.fed f.input; refused = f.refused; done = f.done }

abbrev pub drainer_of : Draining → Drainer
drainer_of d = record { output = d.output; refused = d.refused; done = d.done }

-- what the feeder puts next, by whether it was refused memory and what is left
abbrev pub next_message : Bool → List Rec → Message
next_message true left = Abort
next_message false [] = Eos
next_message false (x ∷ xs) = Item x

-- the feeder behind that message
abbrev pub passed_on : Bool → List Rec → Feeder
passed_on true left = record { left = left; refused = true; done = true }
passed_on false [] = record { left = []; refused = false; done = true }
passed_on false (x ∷ xs) = record { left = xs; refused = false; done = false }

-- a party that did nothing has ended, or there was nothing for it to do
abbrev pub IdlesOnly : Bool → Type 0 → Act → Type 0
IdlesOnly done nothing (Took k m) = Unit {0}
IdlesOnly done nothing (Gave k m) = Unit {0}
IdlesOnly done nothing Refused = Unit {0}
IdlesOnly done nothing Idle = (done ≡ true) ⊎ nothing
IdlesOnly done nothing Told = ⊥
IdlesOnly done nothing (Handed x) = ⊥

-- one step of the feeder at the edge that it writes
pub record FeederMoves (f : Feeder) (q : Queue Rec) (g : Feeder) (r : Queue Rec) : Type 0 where
  pub act : Act
  pub steps : FeederStep f act g
  pub gives : put_of r ∷ [] ≡ gave act (put_of q ∷ [])
  pub stalls : IdlesOnly f.done (room_of q ≡ 0) act
  pub got : r.got ≡ q.got
  pub cap : r.cap ≡ q.cap

-- one step of the drainer at the edge that it reads
pub record DrainerMoves (d : Drainer) (q : Queue Rec) (e : Drainer) (r : Queue Rec) : Type 0 where
  pub act : Act
  pub steps : DrainerStep d act e
  pub takes : r.got ∷ [] ≡ took act (q.got ∷ [])
  pub stalls : IdlesOnly d.done (q.inside ≡ []) act
  pub put : put_of r ≡ put_of q
  pub cap : r.cap ≡ q.cap

-- one step of unit `p` over the edges of its row
pub record UnitMoves {U : Type 0} (b : Doing U) (p : ℕ) (row : Row) (units : List U) (edges : List (Queue Rec)) (units' : List U) (edges' : List (Queue Rec)) : Type 0 where
  pub old : U
  pub new : U
  pub was : old ≡ slice_index_or units p old
  pub is : units' ≡ slice_set units p new
  pub act : Act
  pub answer : Step
  pub steps : b.Steps old act new
  pub answers : Answers b new act answer
  pub takes : gots_at edges' row.ins ≡ took act (gots_at edges row.ins)
  pub gives : puts_at edges' row.outs ≡ gave act (puts_at edges row.outs)
  pub waits : WaitsOnly b old answer (known_over edges row) (known_over edges' row)
  pub rest : rest_of edges' row.ins row.outs ≡ rest_of edges row.ins row.outs
