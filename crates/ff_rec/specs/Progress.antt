-- How the fields of a reader of lines stand for what was read.
use Rattle.std.specs.Prelude.{◌≡◌, ℕ, ◌+◌, ◌≤◌, List, [], ◌++◌, length, Option, None, Some, Result, Ok, Err}
use Rattle.ff_rec.specs.declared.fault.LineFault.{LineFault}
use Rattle.ff_rec.specs.declared.fault.FeedFault.{FeedFault}
use Rattle.ff_rec.specs.declared.fault.FeedFault.TheVariants.{Line, NoMemory}
use Rattle.ff_rec.specs.declared.line_reader.progress.Limits.{Limits}
use Rattle.ff_rec.specs.declared.line_reader.progress.Progress.{Progress}
use Rattle.ff_rec.specs.Lines.{tabs}
use Rattle.ff_rec.specs.Pieces.{Lacks}
use Rattle.ff_rec.specs.Reading.{Reading, reading, refused, line_fault}

-- what holds of the fields while nothing was refused
pub record IsReady (m : Limits) (p : Progress) : Type 0 where
  pub room : p.taken ≤ m.input
  pub fewer : p.ended ≤ p.taken
  pub counted : p.tab_count ≡ tabs p.line.items
  pub clean : Lacks 10 p.line.items
  pub few : p.tab_count ≤ 63
  pub short : length p.line.items ≤ m.line

-- the state that they stand for
abbrev pub reading_of : Limits → Progress → Reading
reading_of m p = reading m.line m.input p.taken p.ended p.line.items

-- the state by the refusal, if one came
abbrev pub state_of : Option FeedFault → Limits → Progress → Reading
state_of None m p = reading_of m p
state_of (Some f) m p = refused m.line m.input f

-- the state by the answer
abbrev pub left_by : Result (Unit {0}) FeedFault → Limits → Progress → Reading
left_by (Ok done) m p = reading_of m p
left_by (Err f) m p = refused m.line m.input f

-- the line so far, with this part behind it, passes no limit, and the part was taken
pub record KeepsPart (m : Limits) (old new : Progress) (part : List ℕ) : Type 0 where
  pub ready : IsReady m new
  pub fits : line_fault m.line (old.ended + 1) (old.line.items ++ part) ≡ None
  pub taken : new.taken ≡ old.taken + length part
  pub ended : new.ended ≡ old.ended
  pub line : new.line.items ≡ old.line.items ++ part

-- the line so far, with this part behind it, passes no limit, and it and its newline were taken
pub record EndsLine (m : Limits) (old new : Progress) (part : List ℕ) : Type 0 where
  pub ready : IsReady m new
  pub fits : line_fault m.line (old.ended + 1) (old.line.items ++ part) ≡ None
  pub taken : new.taken ≡ old.taken + length part + 1
  pub ended : new.ended ≡ old.ended + 1
  pub line : new.line.items ≡ []

-- the refusal of a line names the first limit that it passes
abbrev pub IsLineFault : FeedFault → Option LineFault → Type 0
IsLineFault (Line f) first = first ≡ Some f
IsLineFault NoMemory first = Unit {0}
