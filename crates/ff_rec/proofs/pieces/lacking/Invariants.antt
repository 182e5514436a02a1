use Rattle.std.proofs.Common.{take}
use Rattle.ff_rec.specs.Pieces.{Lacks}
use Rattle.ff_rec.proofs.pieces.lacking.Given as goal

-- the bytes so far lack the separator
abbrev pub invariant-loop-at : goal.invariant-loop-at
invariant-loop-at l = Lacks l.separator (take l.at l.bytes)
