use Rattle.std.proofs.Common.{◌≡◌, ◌<◌, ℕ}
use Rattle.ff_engine.specs.Boards.{IsFirst, gots_on, puts_on, reads_on, writes_on}
use Rattle.ff_engine.specs.Slots.{slot}
use Rattle.ff_engine.proofs.board.settle_rings.Given as goal

-- the first of the rings are settled, and nothing else changes
abbrev pub invariant-loop-k : goal.invariant-loop-k
invariant-loop-k l = record {
  reads : reads_on l.ins.items ≡ reads_on l.initial.ins.items;
  writes : writes_on l.outs.items ≡ writes_on l.initial.outs.items;
  gots : gots_on l.ins.items ≡ gots_on l.initial.ins.items;
  puts : puts_on l.outs.items ≡ puts_on l.initial.outs.items;
  first : (e : ℕ) → e < l.k → IsFirst (slot (gots_on l.initial.ins.items) e) (slot (puts_on l.initial.outs.items) e);
}
