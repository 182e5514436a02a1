use Rattle.std.proofs.Common.{take}
use Rattle.ff_numbers.specs.Reads.{Adds}
use Rattle.ff_numbers.proofs.reading.add_all.Given as goal

-- the numbers of the records so far were added
abbrev pub invariant-loop-line : goal.invariant-loop-line
invariant-loop-line l = Adds (take l.line-index l.records) l.initial.numbers l.numbers
