use Rattle.std.proofs.Common.{◌≡◌, ◌+◌, ◌≤◌, drop}
use Rattle.ff_rec.specs.Lines.{tabs}
use Rattle.ff_rec.proofs.tabs.count_few.Given as goal

-- those counted so far and those that are left are all
abbrev pub invariant-loop-byte : goal.invariant-loop-byte
invariant-loop-byte l = record {
  told : l.count + tabs (drop l.byte-index l.part) ≡ tabs l.part;
  within : l.count ≤ l.byte-index;
}
