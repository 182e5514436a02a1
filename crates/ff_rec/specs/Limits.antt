-- The limits of a text on the whole, and what is read of it up to the first that it passes.
use Rattle.std.specs.Prelude.{◌≡◌, ◌↔◌, ℕ, ◌+◌, ◌-◌, ◌≤◌, nat_lt, Bool, true, false, if◌then◌else◌, List, [], ◌∷◌, ◌++◌, length, take, Option, None, Some, option_map}
use Rattle.std.specs.List.{AllByRecursion}
use Rattle.ff_rec.specs.declared.fault.LineFault.{LineFault}
use Rattle.ff_rec.specs.declared.fault.LineFault.TheVariants.{TooLong, TooManyFields, InputTooLong}
use Rattle.ff_rec.specs.declared.fault.FeedFault.TheVariants.{Line}
use Rattle.ff_rec.specs.Lines.{Rec, tabs, lines, records, whole}
use Rattle.ff_rec.specs.Reading.{line_fault, opening, after, given, last_given}

-- the first, or else the second
abbrev pub or_later : Option LineFault → Option LineFault → Option LineFault
or_later None later = later
or_later (Some f) later = Some f

-- the first limit that one of these lines passes, the first of which is number `n`
abbrev pub lines_fault : ℕ → ℕ → List (List ℕ) → Option LineFault
lines_fault limit n [] = None
lines_fault limit n (line ∷ others) = or_later (line_fault limit n line) (lines_fault limit (n + 1) others)

-- more bytes than `most`
abbrev pub input_fault : ℕ → List ℕ → Option LineFault
input_fault most bytes = if nat_lt most (length bytes) then Some InputTooLong else None

-- the first limit that a text passes: one of its lines within the first `most` bytes, or that of the input
abbrev pub limit : ℕ → ℕ → List ℕ → Option LineFault
limit line_limit most bytes = or_later (lines_fault line_limit 1 (lines (take most bytes))) (input_fault most bytes)

-- the records of the lines before that of the limit, or else of all lines, with a last one without a newline where the input ended
abbrev pub seen_by : Option LineFault → ℕ → List ℕ → Bool → List Rec
seen_by None most bytes ended = if ended then records bytes else whole bytes
seen_by (Some (TooLong n)) most bytes ended = take (n - 1) (records bytes)
seen_by (Some (TooManyFields n)) most bytes ended = take (n - 1) (records bytes)
seen_by (Some InputTooLong) most bytes ended = whole (take most bytes)

-- what is read of a text within these limits
abbrev pub seen : ℕ → ℕ → List ℕ → Bool → List Rec
seen line_limit most bytes ended = seen_by (limit line_limit most bytes) most bytes ended

-- some of these records, from the first on
pub record IsBeginning (some all : List Rec) : Type 0 where
  pub others : List Rec
  pub is : all ≡ some ++ others

-- reading byte by byte is cutting the text at its newlines, up to the first limit that it passes
pub record IsCut (line_limit most : ℕ) (bytes : List ℕ) : Type 0 where
  pub fault : (after (opening line_limit most) bytes).fault ≡ option_map Line (limit line_limit most bytes)
  pub going : given (opening line_limit most) bytes ≡ seen line_limit most bytes false
  pub begins : IsBeginning (seen line_limit most bytes false) (records bytes)
  pub at_end : given (opening line_limit most) bytes ++ last_given (after (opening line_limit most) bytes).line ≡ seen line_limit most bytes true

abbrev pub ReadingLaw : Type 0
ReadingLaw = (line_limit most : ℕ) (bytes : List ℕ) → IsCut line_limit most bytes

-- a line with at most so many bytes, and at most 63 tabs
pub record IsWithin (line_limit : ℕ) (line : List ℕ) : Type 0 where
  pub few : tabs line ≤ 63
  pub short : length line ≤ line_limit

-- a text passes no limit just where it and each of its lines is within them
abbrev pub LimitLaw : Type 0
LimitLaw = (line_limit most : ℕ) (bytes : List ℕ)
    → (limit line_limit most bytes ≡ None) ↔ ((length bytes ≤ most) × AllByRecursion (IsWithin line_limit) (lines bytes))
