use Rattle.std.proofs.Common.{◌≡◌, ◌+◌, length}
use Rattle.ff_rec.specs.Progress.{IsReady, reading_of}
use Rattle.ff_rec.proofs.Steps.{HasPassed}
use Rattle.ff_rec.proofs.line_reader.passing.pass_within.Given as goal

-- what was passed, and what is left of the piece
abbrev pub invariant-loop-part : goal.invariant-loop-part
invariant-loop-part l = record {
  ready : IsReady l.limits l.progress;
  taken : l.progress.taken + length l.left ≡ l.initial.progress.taken + length l.piece;
  passed : HasPassed (reading_of l.limits l.initial.progress) l.piece (reading_of l.limits l.progress) l.left;
}

abbrev pub decreases-loop-part : goal.decreases-loop-part
decreases-loop-part l = length l.left
