-- What a description allows of its input, by its version.
use Rattle.std.specs.Prelude.{ℕ, Bool, List, Option}
use Rattle.ff_net.specs.declared.net.Version.{Version}
use Rattle.ff_net.specs.declared.net.Version.TheVariants.{One, Two}
use Rattle.ff_rec.specs.Limits.{limit, seen}
use Rattle.ff_rec.specs.Lines.{Rec}
use Rattle.ff_rec.specs.declared.fault.LineFault.{LineFault}
use Rattle.ff_rec.specs.declared.limits.TheConstants.{LONGEST_LINE_ONE, LONGEST_LINE_TWO, LONGEST_INPUT}

-- the most bytes of a line, its newline not counted
abbrev pub line_bytes : Version → ℕ
line_bytes One = LONGEST_LINE_ONE
line_bytes Two = LONGEST_LINE_TWO

-- the most bytes of an input
abbrev pub input_bytes : ℕ
input_bytes = LONGEST_INPUT

-- the first limit that an input passes
abbrev pub limit_by : Version → List ℕ → Option LineFault
limit_by v bytes = limit (line_bytes v) input_bytes bytes

-- the records that are read of an input up to that limit, to its end or as far as it was read
abbrev pub seen_by : Version → List ℕ → Bool → List Rec
seen_by v bytes ended = seen (line_bytes v) input_bytes bytes ended
