-- A moment of a core at which no party can move.
use Rattle.std.specs.Prelude.{◌≡◌, ◌⊎◌, ◌<◌, ◌≤◌, ℕ, List, ◌++◌, length, slice_index}
use Rattle.std.specs.List.{AllByRecursion}
use Rattle.ff_node.specs.Fits.{marks}
use Rattle.ff_node.specs.Runs.{Message}
use Rattle.ff_unit.proofs.Rests.{HasEnd, MarkLast, turn, turns_of}
use Rattle.ff_plan.specs.declared.kind.UnitKind.{UnitKind}
use Rattle.ff_plan.specs.declared.kind.UnitKind.TheVariants.{Stage, DealRr, DealOd, DealBy, Merge, ODealRr, ODealOd, OMergeTurn, OMergePick, Master, Worker}
use Rattle.ff_plan.specs.Rows.{Row, Laid}

-- what was got from each edge and what was put on it, and whether the unit of a row has ended
pub record Moment : Type 1 where
  pub got : ℕ → List Message
  pub put : ℕ → List Message
  pub Ended : Row → Type 0

-- all that was put on an edge was got from it; Eos or Abort was put on it
abbrev pub Dry : Moment → ℕ → Type 0
Dry v e = v.put e ≡ v.got e

abbrev pub Closed : Moment → ℕ → Type 0
Closed v e = HasEnd (v.put e)

-- what was got from an edge is the first of what was put on it
abbrev pub InOrder : Moment → Type 0
InOrder v = (e : ℕ) → (rest : List Message) × (v.put e ≡ v.got e ++ rest)

-- units between some edges and some others passed on all that came: nothing is left on the edges that they read, and where these were closed, so
-- were those that they write, and they have ended
pub record Passed (v : Moment) (ins outs : List ℕ) (Ended : Type 0) : Type 0 where
  pub dry : AllByRecursion (Dry v) ins
  pub ends : AllByRecursion (Closed v) ins → AllByRecursion (Closed v) outs × Ended

-- so it is where nothing is left on the edges that they write
abbrev pub Passes : Moment → List ℕ → List ℕ → Type 0 → Type 0
Passes v ins outs Ended = AllByRecursion (Dry v) outs → Passed v ins outs Ended

-- no Marks come up, and where nothing is left behind and the end wasn't told, none was lost
pub record KeepsMarks (v : Moment) (i o : ℕ) : Type 0 where
  pub fewer : marks (v.put o) ≤ marks (v.got i)
  pub same : Dry v o → (Closed v o → ⊥) → marks (v.put o) ≡ marks (v.got i)

-- an ordered deal is blocked at out `k`: it is the one in turn, or a group stands last on it
pub record IsBlocked (v : Moment) (outs : List ℕ) (number : ℕ) : Type 0 where
  pub k : ℕ
  pub below : k < length outs
  pub wet : Dry v (slice_index outs k) → ⊥
  pub where_it_is : (k ≡ turn (length outs) number) ⊎ MarkLast (v.put (slice_index outs k))

-- an ordered deal that put so many Marks, round and round
pub record DealtOrder (v : Moment) (ins outs : List ℕ) (Ended : Type 0) : Type 0 where
  pub number : ℕ
  pub dealt : (j : ℕ) → j < length outs → marks (v.put (slice_index outs j)) ≡ turns_of (length outs) number j
  pub state : IsBlocked v outs number ⊎ Passed v ins outs Ended

-- an ordered merge that got so many Marks, round and round, and awaits the next place
pub record Awaits (v : Moment) (ins : List ℕ) : Type 0 where
  pub number : ℕ
  pub dry : Dry v (slice_index ins (turn (length ins) number))
  pub unclosed : Closed v (slice_index ins (turn (length ins) number)) → ⊥
  pub merged : (j : ℕ) → j < length ins → marks (v.got (slice_index ins j)) ≡ turns_of (length ins) number j

abbrev pub PassesOn : Moment → Row → Type 0
PassesOn v row = Passes v row.ins row.outs (v.Ended row)

-- what is known of a unit that can't move
abbrev pub StuckKind : Moment → UnitKind → Row → Type 0
StuckKind v Stage row = PassesOn v row × KeepsMarks v (slice_index row.ins 0) (slice_index row.outs 0)
StuckKind v DealRr row = PassesOn v row
StuckKind v DealOd row = Unit {0}
StuckKind v (DealBy f) row = PassesOn v row
StuckKind v Merge row = PassesOn v row
StuckKind v ODealRr row = DealtOrder v row.ins row.outs (v.Ended row)
StuckKind v ODealOd row = Unit {0}
StuckKind v OMergeTurn row = AllByRecursion (Dry v) row.outs → Awaits v row.ins ⊎ Passed v row.ins row.outs (v.Ended row)
StuckKind v OMergePick row = Unit {0}
StuckKind v Master row = Unit {0}
StuckKind v Worker row = Unit {0}

abbrev pub IsStuck : {N : Type 0} → Moment → Laid N → Type 0
IsStuck v l = StuckKind v l.row.kind l.row

-- all of these units have ended
abbrev pub AllEnded : {N : Type 0} → Moment → List (Laid N) → Type 0
AllEnded v ls = AllByRecursion (λ l. v.Ended l.row) ls
