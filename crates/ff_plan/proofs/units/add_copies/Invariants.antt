use Rattle.std.proofs.Common.{◌≡◌, ◌-◌, ◌+◌, ◌++◌}
use Rattle.ff_plan.specs.AlikeRows.{copied_rows}
use Rattle.ff_plan.proofs.units.add_copies.Given as goal

-- the units so far and those that are left are all
abbrev pub invariant-loop-k : goal.invariant-loop-k
invariant-loop-k l =
    l.units.items ++ copied_rows l.kind l.at (l.from + l.k) (l.to + l.k) (l.count - l.k)
    ≡ l.initial.units.items ++ copied_rows l.kind l.at l.from l.to l.count
