use Rattle.std.proofs.Common.{vec_capacity}
use Rattle.ff_soak.proofs.Chunks.{HasLines}
use Rattle.ff_soak.proofs.source.refill.Given as goal

abbrev pub invariant-loop-i : goal.invariant-loop-i
invariant-loop-i l = HasLines l.fn.chunk.items l.made l.i l.records l.chunk.items (vec_capacity l.chunk)
