use Rattle.std.proofs.Common.{◌≡◌, ◌-◌, None, []}
use Rattle.ff_numbers.specs.Reads.{Reads}
use Rattle.ff_numbers.proofs.reading.read_pieces.Given as goal

-- what was read so far, and which numbers came of it
abbrev pub invariant-pieces : goal.invariant-pieces
invariant-pieces g l = record {
  reads : Reads l.initial.reader l.initial.numbers l.reader l.numbers (g.I.Source.left l.initial.source) (g.I.Source.left l.source);
  going : l.reader.fault ≡ None;
  used : l.records.items ≡ [];
  quiet : g.I.Source.faults l.source ≡ g.I.Source.faults l.initial.source;
}

-- each piece takes from what an input may have
abbrev pub decreases-pieces : goal.decreases-pieces
decreases-pieces g l = l.reader.input_limit - l.reader.taken
