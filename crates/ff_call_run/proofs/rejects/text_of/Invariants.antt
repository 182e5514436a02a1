use Rattle.std.proofs.Common.{◌≡◌, ◌++◌, length}
use Rattle.ff_rec.specs.Lines.{text}
use Rattle.ff_call_run.proofs.rejects.text_of.Given as goal

-- what was printed, and the text of the rest
abbrev pub invariant-loop-r : goal.invariant-loop-r
invariant-loop-r l = l.bytes.items ++ text l.records ≡ text l.initial.records

abbrev pub decreases-loop-r : goal.decreases-loop-r
decreases-loop-r l = length l.records
