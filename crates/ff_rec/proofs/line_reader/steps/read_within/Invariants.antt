use Rattle.std.proofs.Common.{◌≡◌, ◌+◌, length}
use Rattle.ff_rec.specs.Progress.{IsReady, reading_of}
use Rattle.ff_rec.proofs.Feeding.{HasRead}
use Rattle.ff_rec.proofs.line_reader.steps.read_within.Given as goal

-- what was read, and what is left of the piece
abbrev pub invariant-loop-part : goal.invariant-loop-part
invariant-loop-part l = record {
  ready : IsReady l.limits l.progress;
  taken : l.progress.taken + length l.left ≡ l.initial.progress.taken + length l.piece;
  read : HasRead (reading_of l.limits l.initial.progress) l.piece l.initial.into.items (reading_of l.limits l.progress) l.left l.into.items;
}

abbrev pub decreases-loop-part : goal.decreases-loop-part
decreases-loop-part l = length l.left
