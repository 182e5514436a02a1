-- A core: units, a feeder and a drainer over plain queues, on one thread.
use Rattle.std.specs.Prelude.{◌≡◌, ℕ, ◌<◌, Bool, true, false, ◌&&◌, ◌||◌, List, [], ◌∷◌, ◌++◌, map, length, slice_index_or, Option, None, Some}
use Rattle.std.specs.List.{list_all, list_any, flat_map}
use Rattle.ff_rec.specs.Lines.{Rec}
use Rattle.ff_node.specs.Runs.{Message}
use Rattle.ff_port.specs.Queues.{Queue}
use Rattle.ff_port.specs.declared.answers.End.{End}
use Rattle.ff_port.specs.declared.answers.End.TheVariants.{Eos, Abort, Memory}
use Rattle.ff_unit.specs.Units.{Doing}
use Rattle.ff_steps.specs.Links.{edge_at, gots_at, puts_at}
use Rattle.ff_steps.specs.Parties.{Party, AsUnit, AsFeeder, AsDrainer, Feeder, Drainer, PartyRan, has_ended}
use Rattle.ff_steps.specs.Wiring.{Row, row_at, IsWired}

-- `U` is what is seen of a unit
pub record CoreState (U : Type 0) : Type 0 where
  -- what it was made of: the units before their first steps, the input, and the edges that each party reads and writes
  pub made : List U
  pub input : List Rec
  pub rows : List Row
  -- what it holds now
  pub edges : List (Queue Rec)
  pub units : List U
  pub feeder : Feeder
  pub drainer : Drainer

-- the units in their order, then the feeder, then the drainer
abbrev pub parties : {U : Type 0} → CoreState U → List (Party U)
parties c = map (λ u. AsUnit u) c.units ++ AsFeeder c.feeder ∷ AsDrainer c.drainer ∷ []

abbrev pub party : {U : Type 0} → CoreState U → ℕ → Party U
party c p = slice_index_or (parties c) p (AsDrainer c.drainer)

-- the edge with this number
abbrev pub edge : {U : Type 0} → CoreState U → ℕ → Queue Rec
edge c e = edge_at c.edges e

-- what a party took at its ins, and what it put at its outs
abbrev pub gots_of : {U : Type 0} → CoreState U → ℕ → List (List Message)
gots_of c p = gots_at c.edges (row_at c.rows p).ins

abbrev pub puts_of : {U : Type 0} → CoreState U → ℕ → List (List Message)
puts_of c p = puts_at c.edges (row_at c.rows p).outs

-- each party is reached by its own steps, and these took and put what its edges tell
pub record IsSound {U : Type 0} (b : Doing U) (c : CoreState U) : Type 0 where
  pub wired : IsWired c.rows (length c.edges)
  pub made_of : map b.opening c.units ≡ c.made
  pub rows_are : length c.rows ≡ length (parties c)
  pub ran : (p : ℕ) → p < length (parties c) → PartyRan b c.input (party c p) (gots_of c p) (puts_of c p)

-- whether all parties have ended
abbrev pub all_ended : {U : Type 0} → Doing U → CoreState U → Bool
all_ended b c = list_all (has_ended b) (parties c)

-- a unit that ended otherwise than by Eos
abbrev pub is_cut_off : Option End → Bool
is_cut_off None = false
is_cut_off (Some Eos) = false
is_cut_off (Some Abort) = true
is_cut_off (Some Memory) = true

-- whether some unit ended by Memory or Abort, or the feeder or the drainer was refused memory
abbrev pub is_short : {U : Type 0} → Doing U → CoreState U → Bool
is_short b c = list_any (λ u. b.done u && is_cut_off (b.fin u)) c.units || (c.feeder.refused || c.drainer.refused)

-- the rejects that the units hold, and those that were taken out of them, from the first unit on
abbrev pub held_rejects : {U : Type 0} → Doing U → CoreState U → List Rec
held_rejects b c = flat_map b.kept c.units

abbrev pub taken_rejects : {U : Type 0} → Doing U → CoreState U → List Rec
taken_rejects b c = flat_map b.taken c.units

-- those that were taken out, and then those that are held
abbrev pub all_rejects : {U : Type 0} → Doing U → CoreState U → List Rec
all_rejects b c = taken_rejects b c ++ held_rejects b c
