-- The ends of rings, kept by the numbers of their edges.
use Rattle.std.specs.Prelude.{◌≡◌, ℕ, ◌<◌, List, [], ◌++◌, map, Option, None, Some, Bool, true, false, if◌then◌else◌, slice_get}
use Rattle.std.specs.Option.{option_map}
use Rattle.ff_rec.specs.Lines.{Rec}
use Rattle.ff_node.specs.Runs.{Message}
use Rattle.ff_plan.specs.Rows.{Row}
use Rattle.ff_plan.specs.declared.kind.Party.{Party}
use Rattle.ff_plan.specs.declared.kind.Party.TheVariants.{Caller, Unit as OfUnit}
use Rattle.ff_plan.specs.declared.kind.UnitKind.{UnitKind}
use Rattle.ff_plan.specs.declared.kind.UnitKind.TheVariants.{Stage, DealRr, DealBy, ODealRr, OMergePick, Master, Worker}
use Rattle.ff_plan.specs.declared.layout.Edge.{Edge}
use Rattle.ff_ring.specs.Ends.{got_of, put_of, room_of, is_eager, is_eager_in, read_ring, written_ring, IsMade}
use Rattle.ff_ring.specs.Names.{RingName}
use Rattle.ff_ring.specs.declared.ring_in.RingIn.{RingIn}
use Rattle.ff_ring.specs.declared.ring_out.RingOut.{RingOut}
use Rattle.ff_ring.specs.declared.spins.Spins.{Spins}
use Rattle.ff_ring.specs.declared.spins.Spins.TheVariants.{Few, Long, Many}
use Rattle.ff_engine.specs.Slots.{EachKept}
use Rattle.ff_engine.specs.declared.delivery.Delivery.{Delivery}
use Rattle.ff_engine.specs.declared.delivery.Delivery.TheVariants.{Prompt, Gathered}

-- the two ends of a ring over which nothing went
pub record IsFreshRing (inn : RingIn Rec) (out : RingOut Rec) : Type 0 where
  pub pair : read_ring inn ≡ written_ring out
  pub got : got_of inn ≡ []
  pub put : put_of out ≡ []
  pub room : 0 < room_of out

abbrev pub IsFreshPair : Option (RingIn Rec) → Option (RingOut Rec) → Type 0
IsFreshPair (Some inn) (Some out) = IsFreshRing inn out
IsFreshPair (Some inn) None = ⊥
IsFreshPair None out = ⊥

-- whether a stage hands over at once what its reader lacks
abbrev pub is_prompt : Delivery → Bool
is_prompt Prompt = true
is_prompt Gathered = false

-- whether a unit does so: the workers of a wrap wait for their master; all other units hand over what waits once they run dry,
-- deals in turn and by key behind some naps
abbrev pub hurries : Delivery → UnitKind → Bool
hurries delivery Stage = is_prompt delivery
hurries delivery Master = true
hurries delivery _ = false

abbrev pub row_hurries : Delivery → Option Row → Bool
row_hurries delivery None = true
row_hurries delivery (Some row) = hurries delivery row.kind

-- whether the writer of an edge does so; the caller doesn't, who hands over what waits where a read gave less than it might, and before
-- it parks
abbrev pub writer_hurries : Delivery → List Row → Party → Bool
writer_hurries delivery rows Caller = false
writer_hurries delivery rows (OfUnit number) = row_hurries delivery (slice_get rows number)

-- an edge's ring is as long as the edge, and its writer hands over as it is to
abbrev pub IsRingOf : Delivery → List Row → Edge → Option (RingOut Rec) → Type 0
IsRingOf delivery rows edge None = ⊥
IsRingOf delivery rows edge (Some out) = IsMade edge.cap out × (is_eager out ≡ writer_hurries delivery rows edge.writer)

-- whether the writer of an edge is told of each block that comes back: where nodes may take long, and where it hurries
abbrev pub writer_is_told : Delivery → List Row → Party → Bool
writer_is_told Prompt rows writer = true
writer_is_told Gathered rows writer = writer_hurries Gathered rows writer

-- an edge's ring is read by an end that tells the writer as it is to
abbrev pub IsReadAs : Delivery → List Row → Edge → Option (RingIn Rec) → Type 0
IsReadAs delivery rows edge None = ⊥
IsReadAs delivery rows edge (Some inn) = is_eager_in inn ≡ writer_is_told delivery rows edge.writer

-- nothing went over the rings of these ends
pub record AreFresh (ins : List (Option (RingIn Rec))) (outs : List (Option (RingOut Rec))) : Type 0 where
  pub got : EachKept (λ e inn. got_of inn ≡ []) ins
  pub put : EachKept (λ e out. put_of out ≡ []) outs
  pub room : EachKept (λ e out. 0 < room_of out) outs

-- the ends are those of the rings of these names, by the numbers of their edges
pub record AreNamed (name : ℕ → RingName) (ins : List (Option (RingIn Rec))) (outs : List (Option (RingOut Rec))) : Type 0 where
  pub reads : EachKept (λ e inn. read_ring inn ≡ name e) ins
  pub writes : EachKept (λ e out. written_ring out ≡ name e) outs

-- what was taken at these ends, and the rings that they read
abbrev pub gots_on : List (Option (RingIn Rec)) → List (Option (List Message))
gots_on ins = map (λ inn. option_map (λ i. got_of i) inn) ins

abbrev pub reads_on : List (Option (RingIn Rec)) → List (Option RingName)
reads_on ins = map (λ inn. option_map (λ i. read_ring i) inn) ins

-- what was put at these, and the rings that they write
abbrev pub puts_on : List (Option (RingOut Rec)) → List (Option (List Message))
puts_on outs = map (λ out. option_map (λ o. put_of o) out) outs

abbrev pub writes_on : List (Option (RingOut Rec)) → List (Option RingName)
writes_on outs = map (λ out. option_map (λ o. written_ring o) out) outs

-- what was got is the first of what was put, where there are ends
abbrev pub IsFirst : Option (List Message) → Option (List Message) → Type 0
IsFirst None put = Unit {0}
IsFirst (Some got) None = ⊥
IsFirst (Some got) (Some put) = (rest : List Message) × (put ≡ got ++ rest)

-- how long the thread of such a unit spins: in a wrap each waits for the other's answer, and over a ring of one slot each record comes
-- alone, and so do answers to an ordered merge that is told who has each
abbrev pub spins_for : Bool → UnitKind → Spins
spins_for single Master = Many
spins_for single Worker = Many
spins_for single OMergePick = Long
spins_for single _ = if single then Long else Few

-- whether it naps before it hands over what it has gathered: a deal that hands it over at once wakes several readers for little each
abbrev pub naps_for : UnitKind → Bool
naps_for DealRr = true
naps_for (DealBy f) = true
naps_for ODealRr = true
naps_for _ = false
