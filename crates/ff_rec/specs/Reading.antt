-- A text that comes in pieces, read byte by byte: how far it was read, the records that it gave, and the limit that it passed.
use Rattle.std.specs.Prelude.{ℕ, ◌+◌, ◌==◌, nat_lt, nat_le, if◌then◌else◌, List, [], ◌∷◌, ◌++◌, length, take, Option, None, Some, Result, Ok, Err}
use Rattle.ff_rec.specs.declared.fault.LineFault.{LineFault}
use Rattle.ff_rec.specs.declared.fault.LineFault.TheVariants.{TooLong, TooManyFields, InputTooLong}
use Rattle.ff_rec.specs.declared.fault.FeedFault.{FeedFault}
use Rattle.ff_rec.specs.declared.fault.FeedFault.TheVariants.{Line, NoMemory}
use Rattle.ff_rec.specs.Lines.{Rec, cut, tabs}

-- the first limit that line number `n` passes: that of fields at its 64th tab, that of bytes at the byte behind the limit
abbrev pub line_fault : ℕ → ℕ → List ℕ → Option LineFault
line_fault limit n line = if nat_lt 63 (tabs (take limit line)) then Some (TooManyFields n) else (if nat_lt limit (length line) then Some (TooLong n) else None)

-- how far a text was read: the bytes taken, the lines that a newline ended, the bytes of the line that none has ended yet, and the refusal, if one came
pub record Reading : Type 0 where
  pub line_limit : ℕ
  pub input_limit : ℕ
  pub taken : ℕ
  pub ended : ℕ
  pub line : List ℕ
  pub fault : Option FeedFault

-- a text of which no limit was passed
abbrev pub reading : ℕ → ℕ → ℕ → ℕ → List ℕ → Reading
reading limit most taken ended line = record { line_limit = limit; input_limit = most; taken = taken; ended = ended; line = line; fault = None }

-- nothing was read
abbrev pub opening : ℕ → ℕ → Reading
opening limit most = reading limit most 0 0 []

-- it was refused, and the rest is forgotten
abbrev pub refused : ℕ → ℕ → FeedFault → Reading
refused limit most f = record { line_limit = limit; input_limit = most; taken = 0; ended = 0; line = []; fault = Some f }

-- the limit that this byte passes: that of the input, or one of its line
abbrev pub byte_fault : Reading → ℕ → Option LineFault
byte_fault s c = if nat_le s.input_limit s.taken then Some InputTooLong else (if c == 10 then None else line_fault s.line_limit (s.ended + 1) (s.line ++ c ∷ []))

-- the state behind a byte, by the limit that it passes
abbrev pub moved : Option LineFault → Reading → ℕ → Reading
moved None s c =
    if c == 10
    then reading s.line_limit s.input_limit (s.taken + 1) (s.ended + 1) []
    else reading s.line_limit s.input_limit (s.taken + 1) s.ended (s.line ++ c ∷ [])
moved (Some f) s c = refused s.line_limit s.input_limit (Line f)

-- the state behind a byte, which after a refusal is as before
abbrev pub next : Option FeedFault → Reading → ℕ → Reading
next None s c = moved (byte_fault s c) s c
next (Some f) s c = s

-- the record of the line that a byte ends
abbrev pub ends : Option LineFault → Reading → ℕ → List Rec
ends None s c = if c == 10 then cut 9 s.line ∷ [] else []
ends (Some f) s c = []

-- the record that a byte ends, and none after a refusal
abbrev pub gives : Option FeedFault → Reading → ℕ → List Rec
gives None s c = ends (byte_fault s c) s c
gives (Some f) s c = []

-- the state behind these bytes
abbrev pub after : Reading → List ℕ → Reading
after s [] = s
after s (c ∷ cs) = after (next s.fault s c) cs

-- the records of the lines that they end
abbrev pub given : Reading → List ℕ → List Rec
given s [] = []
given s (c ∷ cs) = gives s.fault s c ++ given (next s.fault s c) cs

-- the record of a last line without a newline
abbrev pub last_given : List ℕ → List Rec
last_given [] = []
last_given (c ∷ cs) = cut 9 (c ∷ cs) ∷ []

-- what a reader answers in this state
abbrev pub answer_of : Option FeedFault → Result (Unit {0}) FeedFault
answer_of None = Ok tt
answer_of (Some f) = Err f

-- what holds unless memory ran out
abbrev pub UnlessMemory : Result (Unit {0}) FeedFault → Type 0 → Type 0
UnlessMemory (Ok done) fact = fact
UnlessMemory (Err (Line f)) fact = fact
UnlessMemory (Err NoMemory) fact = Unit {0}
