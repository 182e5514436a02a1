use Rattle.ff_rec.specs.Block.{IsStart}
use Rattle.ff_rec.proofs.block.start_of.Given as goal

-- `start` is where the piece with the loop's number begins
abbrev pub invariant-loop-i : goal.invariant-loop-i
invariant-loop-i l = IsStart l.block.items l.i l.start
