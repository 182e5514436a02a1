use Rattle.std.proofs.Common.{◌≡◌, ◌+◌, ◌≤◌, length}
use Rattle.ff_rec.specs.Lines.{tabs}
use Rattle.ff_rec.proofs.tabs.count_tabs.Given as goal

-- those counted so far and those that are left are all
abbrev pub invariant-loop-rest : goal.invariant-loop-rest
invariant-loop-rest l = record {
  told : l.count + tabs l.rest ≡ tabs l.line;
  within : l.count + length l.rest ≤ length l.line;
}

abbrev pub decreases-loop-rest : goal.decreases-loop-rest
decreases-loop-rest l = length l.rest
